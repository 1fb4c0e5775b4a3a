-- A field where it is due: what has no fault is whole, and a fault is there. Assumes nothing.
use mathlib.Core.Path.{◌≡◌}
use mathlib.Core.List.{List}
use Prim.Native.Nat.{ℕ, ◌+◌, ◌≤◌}
use native.Mathlib.Omega.{arith}
use borrow.Author.Tests.{le-ltb, ltb-true, ltb-false, eq-eqb, eqb-true, eqb-false, not-true, not-false}
use lib.ListN.{length}
use Rattle.refusal.specs.Fault.{none, fault, refuse, ◌then◌}
use Rattle.refusal.proofs.Faults.{then_none, refuse_none, by_refuse, by_then}
use Rattle.laws.specs.Digits.{big_endian}
use Rattle.pool.specs.Sheet.{start_length}
use Rattle.pool.specs.Faults.{field_fault}
use Rattle.pool.specs.Faultless.{Field, Due, Forward, SheetFault, start_cut_off, value_cut_off, wrong_tag, wrong_length}

module _ (b : List ℕ) (o tag len : ℕ) where
  pub field_none : Field b o tag len → field_fault b o tag len ≡ none
  unfolding field_fault refuse ◌then◌
  field_none f =
      simp (
        le-ltb (length b) (o + start_length) (omega (arith, f.whole)),
        eq-eqb _ _ f.tagged,
        eq-eqb _ _ f.sized,
        le-ltb (length b) (o + start_length + len) f.whole,
      )

  pub field_passed : field_fault b o tag len ≡ none → Field b o tag len
  unfolding field_fault
  field_passed e =
      let r1 = then_none _ _ e in
      let r2 = then_none _ _ r1.1 in
      let r3 = then_none _ _ r2.1 in
      record {
        whole = ltb-false _ _ (refuse_none _ _ _ r3.1);
        tagged = eqb-true _ _ (not-false _ (refuse_none _ _ _ r2.0));
        sized = eqb-true _ _ (not-false _ (refuse_none _ _ _ r3.0));
      }

  pub field_fault_lem : Due b o tag len → Forward b o → (k p : ℕ) → field_fault b o tag len ≡ fault k p → SheetFault b k p
  unfolding field_fault
  field_fault_lem d w =
      let P = SheetFault b in
      by_then P _ _ (by_refuse P 1 o _ (λ e. start_cut_off o tag len d w (ltb-true _ _ e)))
      (λ s. let l : o + start_length ≤ length b = ltb-false _ _ (refuse_none _ _ _ s) in
      by_then P _ _ (by_refuse P 2 o _ (λ e. wrong_tag o tag len d w l (eqb-false _ _ (not-true _ e))))
      (λ t. let g : big_endian 1 b o ≡ tag = eqb-true _ _ (not-false _ (refuse_none _ _ _ t)) in
      by_then P _ _ (by_refuse P 2 o _ (λ e. wrong_length o tag len d w l g (eqb-false _ _ (not-true _ e))))
      (λ u. by_refuse P 1 o _ (λ e. value_cut_off o tag len d w g (eqb-true _ _ (not-false _ (refuse_none _ _ _ u))) (ltb-true _ _ e)))))
