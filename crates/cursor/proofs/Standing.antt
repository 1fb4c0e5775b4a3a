-- What a cursor stands at. Assumes nothing.
use Prim.Native.Nat.{ℕ, ◌≤◌, ◌<◌}
use mathlib.Core.List.{List, [], ◌∷◌}
use mathlib.Core.Path.{◌≡◌, sym, ap, ◌∙◌}
use native.Mathlib.Omega.{arith}
use native.Mathlib.Nat.{le_refl}
use native.Mathlib.Decide.{dec_lt}
use borrow.Author.Tests.{lt-ltb, le-ltb}
use lib.ListN.{get_or, get_or-eq_default}
use Rattle.exchange.specs.Subsets.{up_to_three, order, subset_count}
use Rattle.cursor.specs.Cursor.{OnSubset, places, places_of, places_at, below, subset_at}
use Rattle.cursor.specs.declared.Places.{Places}
use Rattle.cursor.proofs.Order.{Subset, two, three, is_subset, past}

below_on : (n p : ℕ) (s : List ℕ) → p < n → below n (p ∷ s) ≡ p ∷ below n s
unfolding below
below_on n p s h = rw (lt-ltb p n h)

below_off : (n p : ℕ) (s : List ℕ) → n ≤ p → below n (p ∷ s) ≡ below n s
unfolding below
below_off n p s h = rw (le-ltb p n h)

-- a cursor at a subset stands at that subset
pub stands : (n : ℕ) (s : List ℕ) → Subset n s → subset_at n (places_of n s) ≡ s
unfolding subset_at places_of below
stands n _ (two {a} {b} p q) =
    below_on n a (b ∷ n ∷ []) (omega arith) ∙ ap (λ (l : List ℕ). a ∷ l) (below_on n b (n ∷ []) q ∙ ap (λ (l : List ℕ). b ∷ l) (below_off n n [] (omega arith)))
stands n _ (three {a} {b} {c} p q r) =
    below_on n a (b ∷ c ∷ []) (omega arith)
    ∙ ap (λ (l : List ℕ). a ∷ l) (below_on n b (c ∷ []) (omega arith) ∙ ap (λ (l : List ℕ). b ∷ l) (below_on n c [] r))

-- a cursor in range stands at a two or at a triple
module _ (n : ℕ) (p : Places) where
  pub at_two : p.u < n → p.v < n → p.w ≡ n → subset_at n p ≡ p.u ∷ p.v ∷ []
  unfolding subset_at below
  at_two h k e =
      below_on n p.u (p.v ∷ p.w ∷ []) h
      ∙ ap (λ (l : List ℕ). p.u ∷ l) (below_on n p.v (p.w ∷ []) k ∙ ap (λ (l : List ℕ). p.v ∷ l) (below_off n p.w [] (omega arith)))

  pub at_triple : p.u < n → p.v < n → p.w < n → subset_at n p ≡ p.u ∷ p.v ∷ p.w ∷ []
  unfolding subset_at below
  at_triple h k l =
      below_on n p.u (p.v ∷ p.w ∷ []) h
      ∙ ap (λ (l : List ℕ). p.u ∷ l) (below_on n p.v (p.w ∷ []) k ∙ ap (λ (l : List ℕ). p.v ∷ l) (below_on n p.w [] l))

  module _ (range : OnSubset n p) where
    pub range_two : p.w ≡ n → subset_at n p ≡ p.u ∷ p.v ∷ []
    range_two e = at_two (omega (arith, range.uv, range.vw)) (omega (arith, range.vw)) e

    pub range_triple : (p.w ≡ n → ⊥) → subset_at n p ≡ p.u ∷ p.v ∷ p.w ∷ []
    range_triple e = at_triple (omega arith) (omega arith) (omega (arith, range.wn))

-- the cursor at the subset of number k stands there
pub stands_at : (n k : ℕ) → n ≤ 200 → k < subset_count (up_to_three n) → (p : Places) → p ≡ places_at (up_to_three n) k → subset_at n p ≡ get_or (order (up_to_three n)) k []
unfolding places_at
stands_at n k few h p e = ap (subset_at n) e ∙ stands n _ (is_subset n k few h)

-- at no place
at_none : (n : ℕ) → subset_at n (places n n n) ≡ []
unfolding subset_at below
at_none n = below_off n n (n ∷ n ∷ []) (le_refl n) ∙ below_off n n (n ∷ []) (le_refl n) ∙ below_off n n [] (le_refl n)

-- past the last too
pub stands_all : (n k : ℕ) → n ≤ 200 → (p : Places) → p ≡ places_at (up_to_three n) k → subset_at n p ≡ get_or (order (up_to_three n)) k []
stands_all n k few p e = elim (dec_lt k (subset_count (up_to_three n))) [
  | yes h ↦ stands_at n k few h p e
  | no h ↦
      let past-last : subset_count (up_to_three n) ≤ k = omega arith in
      ap (subset_at n) (e ∙ past n k past-last) ∙ at_none n ∙ sym (get_or-eq_default (order (up_to_three n)) [] past-last)
]
