-- 6 and 7 of a pair, in turn. Assumes nothing.
use mathlib.Core.Path.{◌≡◌, ◌∙◌}
use Prim.Native.Nat.{ℕ, ◌<◌}
use Rattle.refusal.specs.Fault.{none, fault}
use Rattle.refusal.proofs.Faults.{then_none, none_then, by_then}
use Rattle.pool.specs.Pool.{Pair}
use Rattle.pool.specs.Faults.{pair_fault}
use Rattle.pool.specs.Faultless.{InRange}
use Rattle.pool.proofs.Pairs.{groups_none, groups_passed, groups_fault_lem, id_none, id_passed, id_fault_lem}

-- ## 6 and 7 of pair i

module _ (o : ℕ) (pair : ℕ → Pair) (i : ℕ) where
  pub pair_none : InRange (pair i) → ((j : ℕ) → j < i → (pair j).id ≡ (pair i).id → ⊥) → pair_fault o pair i ≡ none
  unfolding pair_fault
  pair_none r u = none_then _ _ (groups_none o (pair i) r) ∙ id_none o (λ j. (pair j).id) i u

  pub pair_passed : pair_fault o pair i ≡ none → InRange (pair i) × ((j : ℕ) → j < i → (pair j).id ≡ (pair i).id → ⊥)
  unfolding pair_fault
  pair_passed e =
      let s = then_none _ _ e in
      (groups_passed o (pair i) s.0, id_passed o (λ j. (pair j).id) i s.1)

  pub pair_fault_lem : (P : ℕ → ℕ → Type 0) → ((InRange (pair i) → ⊥) → P 6 o)
      → ((j : ℕ) → j < i → InRange (pair i) → (pair j).id ≡ (pair i).id → P 7 o) → (k p : ℕ) → pair_fault o pair i ≡ fault k p → P k p
  unfolding pair_fault
  pair_fault_lem P six seven =
      by_then P _ _ (groups_fault_lem o (pair i) P six) (λ g. id_fault_lem o (λ j. (pair j).id) i P (λ j l. seven j l (groups_passed o (pair i) g)))
