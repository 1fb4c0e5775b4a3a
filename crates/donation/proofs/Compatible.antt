-- M is 0 or 1, and 1 just where donor and patient are compatible. Assumes nothing.
use mathlib.Core.Path.{◌≡◌, refl}
use mathlib.Core.Bool.{Bool, true, false, ◌&&◌}
use Prim.Native.Nat.{ℕ, ◌≤◌}
use native.Mathlib.Omega.{arith}
use borrow.Author.Tests.{eq-eqb, ne_eqb, eqb-false, not-true}
use Rattle.laws.specs.Below.{any_below, one}
use Rattle.laws.proofs.Below.{any_none, none_any, true_false, and_true, and_never}
use Rattle.pool.specs.Pool.{Pair}
use Rattle.donation.specs.Compatibility.{has, share_bit, compatibility, entries}
use Rattle.donation.specs.Promises.{OneWhereCompatible}

one-most : (t : Bool) → one t ≤ 1
unfolding one
one-most true = omega arith
one-most false = omega arith

module _ (pair : ℕ → Pair) (i j : ℕ) where
  pub compatibility-most : compatibility pair i j ≤ 1
  unfolding compatibility
  compatibility-most = one-most _

  pub compatibility_same : i ≡ j → compatibility pair i j ≡ 0
  unfolding compatibility one
  compatibility_same e = rw (eq-eqb i j e)

one_true : (t : Bool) → one t ≡ 1 → t ≡ true
unfolding one
one_true true e = refl
one_true false e = absurd (omega arith)

pub one_where_compatible : OneWhereCompatible
unfolding compatibility share_bit one
one_where_compatible pair i j =
    let v = (pair i).donor_antigens in
    let w = (pair j).patient_antibodies in (
      λ e.
          let s = and_true _ _ (one_true _ e) in
          let r = and_true _ _ s.0 in
          record {
            different = eqb-false i j (not-true _ r.0);
            blood = r.1;
            apart =
                λ k l a b.
                let h : (has v k && has w k) ≡ false = any_none entries (λ k. has v k && has w k) (not-true _ s.1) k l in
                true_false (rw (a, b)) h;
          },
      λ c.
          let h : any_below entries (λ k. has v k && has w k) ≡ false =
          none_any entries (λ k. has v k && has w k) (λ k l. and_never (has v k) (has w k) (c.apart k l)) in
          rw (ne_eqb i j c.different, c.blood, h),
    )
