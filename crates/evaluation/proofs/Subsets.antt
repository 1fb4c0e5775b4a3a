-- The weight of a subset. Assumes nothing.
use Prim.Native.Nat.{ℕ, ◌≤◌}
use mathlib.Core.Bool.{Bool, true, false, cond}
use mathlib.Core.List.{List, [], ◌∷◌, map}
use mathlib.Core.Path.{◌≡◌, refl, sym, ap, ap₂, subst, ◌∙◌}
use native.Mathlib.Omega.{arith}
use lib.Dec.{ltb, eqb}
use lib.ListN.{get_or}
use Rattle.exchange.specs.Subsets.{entry, weigh, each_first, orders, cycles, first_of, heaviest, pairs_at, best_cycle, subset_weight, evaluation_tally}
use Rattle.laws.specs.Below.{one}
use Rattle.greedy.specs.Tally.{Tally, raise}
use Rattle.gates.proofs.Gates.{pick_by}
use Rattle.cursor.specs.Cursor.{OnSubset, subset_at}
use Rattle.cursor.specs.declared.Places.{Places}
use Rattle.cursor.proofs.Standing.{range_two, range_triple}
use Rattle.entries.specs.Preconditions.{Readable, Shuffled, Pairs}
use Rattle.evaluation.specs.Entries.{Between, cycle_weight, larger}
use Rattle.evaluation.specs.declared.EdgeEntries.{EdgeEntries}
use Rattle.evaluation.proofs.Cycles.{weighs_two, weighs_three}

-- of two cycles the first, where the second does not weigh more
pub heavier : (weight : List ℕ → ℕ) (x y : List ℕ) → heaviest weight (x ∷ y ∷ []) ≡ cond (ltb (weight x) (weight y)) y x
unfolding heaviest first_of
heavier weight x y = refl

pub heavier_weight : (weight : List ℕ → ℕ) (x y : List ℕ)
    → weight (heaviest weight (x ∷ y ∷ [])) ≡ cond (ltb (weight x) (weight y)) (weight y) (weight x)
heavier_weight weight x y = ap weight (heavier weight x y) ∙ by_case (ltb (weight x) (weight y))
  where
    by_case : (b : Bool) → weight (cond b y x) ≡ cond b (weight y) (weight x)
    by_case true = refl
    by_case false = refl

pub heavier_le : (weight : List ℕ → ℕ) (x y : List ℕ) (k : ℕ) → weight x ≤ k → weight y ≤ k → weight (heaviest weight (x ∷ y ∷ [])) ≤ k
heavier_le weight x y k p q = subst (λ (j : ℕ). j ≤ k) (sym (heavier_weight weight x y)) (by_case (ltb (weight x) (weight y)))
  where
    by_case : (b : Bool) → cond b (weight y) (weight x) ≤ k
    by_case true = q
    by_case false = p

-- the cycle that a subset is weighed by, as pairs
module _ (m w : ℕ → ℕ → ℕ) (s : List ℕ) where
  pub paired_two : (u v : ℕ) → pairs_at s (best_cycle m w s (u ∷ v ∷ [])) ≡ get_or s u 0 ∷ get_or s v 0 ∷ []
  unfolding best_cycle heaviest first_of cycles orders each_first pairs_at
  paired_two u v = refl

  -- "a triple has u→v→w→u (first) and u→w→v→u (second)"
  pub paired_triple : (u v x : ℕ)
      → pairs_at s (best_cycle m w s (u ∷ v ∷ x ∷ []))
      ≡ heaviest (weigh m w) ((get_or s u 0 ∷ get_or s v 0 ∷ get_or s x 0 ∷ []) ∷ (get_or s u 0 ∷ get_or s x 0 ∷ get_or s v 0 ∷ []) ∷ [])
  unfolding best_cycle heaviest first_of cycles orders each_first pairs_at
  paired_triple u v x = by_case (ltb (weigh m w (get_or s u 0 ∷ get_or s v 0 ∷ get_or s x 0 ∷ [])) (weigh m w (get_or s u 0 ∷ get_or s x 0 ∷ get_or s v 0 ∷ [])))
    where
      by_case : (b : Bool)
          → map (λ (p : ℕ). get_or s p 0) (cond b (u ∷ x ∷ v ∷ []) (u ∷ v ∷ x ∷ []))
          ≡ cond b (get_or s u 0 ∷ get_or s x 0 ∷ get_or s v 0 ∷ []) (get_or s u 0 ∷ get_or s v 0 ∷ get_or s x 0 ∷ [])
      by_case true = refl
      by_case false = refl

-- ## What `weight_at` asks of the steps that it calls, and what it has of them

module _ (n : ℕ) (M W s : List ℕ) (p : Places) (readable : Readable n M W) (shuffled : Shuffled n s) (range : OnSubset n p) where
  pub asks_two : Pairs n M W (get_or s p.u 0) (get_or s p.v 0) (get_or s p.v 0)
  asks_two = record {
    readable = readable;
    first = shuffled.pairs p.u (omega (arith, range.uv, range.vw, range.wn));
    second = shuffled.pairs p.v (omega (arith, range.vw, range.wn));
    third = shuffled.pairs p.v (omega (arith, range.vw, range.wn));
  }

  pub is_two : p.w ≡ n → (ab ba : EdgeEntries) → Between n M W (get_or s p.u 0) (get_or s p.v 0) ab → Between n M W (get_or s p.v 0) (get_or s p.u 0) ba
      → cycle_weight (ab ∷ ba ∷ []) ≡ subset_weight (entry M n) (entry W n) s (subset_at n p)
  unfolding subset_weight
  is_two e ab ba hab hba =
      weighs_two n M W _ _ ab ba hab hba
      ∙ sym (ap (λ (t : List ℕ). subset_weight (entry M n) (entry W n) s t) (range_two n p range e) ∙ ap (weigh (entry M n) (entry W n)) (paired_two (entry M n) (entry W n) s p.u p.v))

  module _ (e : p.w ≡ n → ⊥) where
    pub asks_triple : Pairs n M W (get_or s p.u 0) (get_or s p.v 0) (get_or s p.w 0)
    asks_triple = record {
      readable = readable;
      first = asks_two.first;
      second = asks_two.second;
      third = shuffled.pairs p.w (omega (arith, range.wn));
    }

    is_heaviest : weigh (entry M n) (entry W n) (heaviest (weigh (entry M n) (entry W n)) ((get_or s p.u 0 ∷ get_or s p.v 0 ∷ get_or s p.w 0 ∷ []) ∷ (get_or s p.u 0 ∷ get_or s p.w 0 ∷ get_or s p.v 0 ∷ []) ∷ []))
        ≡ subset_weight (entry M n) (entry W n) s (subset_at n p)
    unfolding subset_weight
    is_heaviest =
        sym (ap (λ (t : List ℕ). subset_weight (entry M n) (entry W n) s t) (range_triple n p range e) ∙ ap (weigh (entry M n) (entry W n)) (paired_triple (entry M n) (entry W n) s p.u p.v p.w))

    pub is_triple : (ab bc ca ac cb ba : EdgeEntries)
        → Between n M W (get_or s p.u 0) (get_or s p.v 0) ab → Between n M W (get_or s p.v 0) (get_or s p.w 0) bc → Between n M W (get_or s p.w 0) (get_or s p.u 0) ca
        → Between n M W (get_or s p.u 0) (get_or s p.w 0) ac → Between n M W (get_or s p.w 0) (get_or s p.v 0) cb → Between n M W (get_or s p.v 0) (get_or s p.u 0) ba
        → larger (cycle_weight (ab ∷ bc ∷ ca ∷ [])) (cycle_weight (ac ∷ cb ∷ ba ∷ [])) ≡ subset_weight (entry M n) (entry W n) s (subset_at n p)
    is_triple ab bc ca ac cb ba hab hbc hca hac hcb hba =
        ap₂ larger (weighs_three n M W _ _ _ ab bc ca hab hbc hca) (weighs_three n M W _ _ _ ac cb ba hac hcb hba)
        ∙ sym (heavier_weight (weigh (entry M n) (entry W n)) _ _) ∙ is_heaviest

-- ## The tally of one subset

evaluating_two : (u v : ℕ) (t : Tally) → evaluation_tally ((u ∷ v ∷ []) ∷ []) t ≡ raise 0 2 t
unfolding evaluation_tally
evaluating_two u v t = refl

evaluating_triple : (u v x : ℕ) (t : Tally) → evaluation_tally ((u ∷ v ∷ x ∷ []) ∷ []) t ≡ raise 1 7 t
unfolding evaluation_tally
evaluating_triple u v x t = refl

module _ (n : ℕ) (p : Places) (range : OnSubset n p) (t : Tally) where
  pub tally_two : p.w ≡ n → raise 0 2 t ≡ evaluation_tally (subset_at n p ∷ []) t
  tally_two e = sym (ap (λ (s : List ℕ). evaluation_tally (s ∷ []) t) (range_two n p range e) ∙ evaluating_two _ _ t)

  pub tally_triple : (p.w ≡ n → ⊥) → raise 1 7 t ≡ evaluation_tally (subset_at n p ∷ []) t
  tally_triple e = sym (ap (λ (s : List ℕ). evaluation_tally (s ∷ []) t) (range_triple n p range e) ∙ evaluating_triple _ _ _ t)

-- ## What `triple` has of the two cycles

pub larger_is : (v w x y bit r : ℕ) → x ≡ v → y ≡ w → bit ≡ one (ltb x y) → r ≡ cond (eqb bit 1) y x → r ≡ larger v w
larger_is v w x y bit r ex ey eb er =
    pick_by (ltb x y) bit y x r eb er ∙ ap (λ (k : ℕ). cond (ltb k y) y k) ex ∙ ap (λ (k : ℕ). cond (ltb v k) k v) ey
