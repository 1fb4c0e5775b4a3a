-- The weights of all subsets, one after another. Assumes nothing.
use Prim.Native.Nat.{ℕ, suc, ◌+◌, ◌*◌, ◌^◌, ◌≤◌, ◌<◌}
use mathlib.Core.Bool.{Bool, true, false, cond}
use mathlib.Core.List.{List, [], ◌∷◌, map}
use mathlib.Core.Path.{◌≡◌, refl, sym, ap, subst, ◌∙◌}
use native.Mathlib.Numerals.{add-one}
use native.Mathlib.Omega.{arith}
use lib.Dec.{eqb}
use lib.ListN.{length, get_or, take, set, length-map, get_or-map}
use lib.Seq.{take-suc, take_all, length-take-le}
use Rattle.laws.specs.Below.{table}
use Rattle.laws.proofs.Below.{table-get_or, length-table}
use Rattle.laws.proofs.Lent.{Filling, filling_none, filling_more, filling_all}
use Rattle.laws.proofs.Whole.{filled_whole}
use Rattle.greedy.specs.Tally as Tallies
use Rattle.greedy.specs.Tally.{raise}
use Rattle.exchange.specs.Subsets.{up_to_three, order, subset_count, entry, weigh, edges, product_of, sum_of, pairs_at, best_cycle, heaviest, cycles, subset_weight, evaluation_tally}
use Rattle.exchange.proofs.Evaluated.{evaluating_append}
use Rattle.gates.specs.Counting.{counted, TallyRoom}
use Rattle.gates.specs.declared.Tally.{Tally}
use Rattle.cursor.specs.Cursor.{OnSubset, places_at, subset_at}
use Rattle.cursor.specs.declared.Places.{Places}
use Rattle.cursor.proofs.Order.{Subset, two, three, in_range_lem}
use Rattle.cursor.proofs.Standing.{stands_at}
use Rattle.entries.specs.Preconditions.{Readable, Shuffled, Pairs}
use Rattle.evaluation.specs.Preconditions.{Evaluating}
use Rattle.entries.proofs.Bounds.{weigh_two_le, weigh_three_le}
use Rattle.evaluation.proofs.Subsets.{paired_two, paired_triple, heavier_le}

-- ## The tally

-- at most so much more
abbrev AtMost : ℕ → Tallies.Tally → Tallies.Tally → Type 0
AtMost k t u = (u.comparisons ≤ t.comparisons + k) × (u.products ≤ t.products + 7 * k) × (u.rounds ≡ t.rounds)

one_at_most : (b : Bool) (k : ℕ) (t u : Tallies.Tally) → AtMost k (cond b (raise 0 2 t) (raise 1 7 t)) u → AtMost (suc k) t u
unfolding raise
one_at_most true k t u h = (omega arith, omega arith, h.2)
one_at_most false k t u h = (omega arith, omega arith, h.2)

pub evaluating_le : (ss : List (List ℕ)) (t : Tallies.Tally) → AtMost (length ss) t (evaluation_tally ss t)
unfolding evaluation_tally
evaluating_le [] t = (omega arith, omega arith, refl)
evaluating_le (s ∷ ss) t = one_at_most (eqb (length s) 2) (length ss) t _ (evaluating_le ss (cond (eqb (length s) 2) (raise 0 2 t) (raise 1 7 t)))

-- ## What a weight is at most

module _ (n : ℕ) (M W s : List ℕ) (readable : Readable n M W) (shuffled : Shuffled n s) (typed : (i : ℕ) → get_or W i 0 < 2 ^ 16) where
  pairs : (a b c : ℕ) → a < n → b < n → c < n → Pairs n M W (get_or s a 0) (get_or s b 0) (get_or s c 0)
  pairs a b c h k l = record { readable = readable; first = shuffled.pairs a h; second = shuffled.pairs b k; third = shuffled.pairs c l }

  pub weight_le : (t : List ℕ) → Subset n t → subset_weight (entry M n) (entry W n) s t ≤ 196605
  unfolding subset_weight
  weight_le _ (two {a} {b} p q) =
      let m = entry M n in
      let w = entry W n in
      omega (arith, ap (weigh m w) (paired_two m w s a b), weigh_two_le n M W typed _ _ _ (pairs a b b (omega arith) q q))
  weight_le _ (three {a} {b} {c} p q r) =
      let m = entry M n in
      let w = entry W n in
      let first = weigh_three_le n M W typed _ _ _ (pairs a b c (omega arith) (omega arith) r) in
      let second = weigh_three_le n M W typed _ _ _ (pairs a c b (omega arith) r (omega arith)) in
      subst (λ (x : ℕ). x ≤ 196605) (sym (ap (weigh m w) (paired_triple m w s a b c))) (heavier_le (weigh m w) _ _ 196605 first second)

-- ## The loop of `evaluate`

-- the weight of the subset of number i
abbrev pub weight_at : ℕ → List ℕ → List ℕ → List ℕ → ℕ → ℕ
weight_at n M W s i = subset_weight (entry M n) (entry W n) s (get_or (order (up_to_three n)) i [])

-- before the subset of number i
pub record Evaluated (n : ℕ) (M W s old : List ℕ) (t : Tally) (weights : List ℕ) (p : Places) (u : Tally) (i : ℕ) : Type 0 where
  pub there : p ≡ places_at (up_to_three n) i
  pub filling : Filling i (weight_at n M W s) old weights
  pub tally : counted u ≡ evaluation_tally (take i (order (up_to_three n))) (counted t)

weights_all : (n : ℕ) (M W s : List ℕ) → table (subset_count (up_to_three n)) (weight_at n M W s) ≡ map (subset_weight (entry M n) (entry W n) s) (order (up_to_three n))
unfolding subset_weight best_cycle heaviest cycles pairs_at weigh edges product_of sum_of
weights_all n M W s =
    table-get_or 0 (map (subset_weight (entry M n) (entry W n) s) (order (up_to_three n))) (subset_count (up_to_three n)) (weight_at n M W s)
    (length-map (order (up_to_three n)) (subset_weight (entry M n) (entry W n) s))
    (λ i h. sym (get_or-map (subset_weight (entry M n) (entry W n) s) (order (up_to_three n)) i []))

module _ (n : ℕ) (M W s old : List ℕ) (t : Tally) (asked : Evaluating (up_to_three n) M W s old t) where
  pub begins : (p : Places) → p ≡ places_at (up_to_three n) 0 → Evaluated n M W s old t old p t 0
  unfolding evaluation_tally
  begins p e = record { there = e; filling = filling_none (weight_at n M W s) old; tally = refl }

  module _ (weights : List ℕ) (p : Places) (u : Tally) (i : ℕ) (inv : Evaluated n M W s old t weights p u i) where
    pub kept : length weights ≡ length old
    kept = inv.filling.kept

    pub ends : i ≡ length old → (weights ≡ map (subset_weight (entry M n) (entry W n) s) (order (up_to_three n))) × (counted u ≡ evaluation_tally (order (up_to_three n)) (counted t))
    ends h =
        let e : i ≡ subset_count (up_to_three n) = h ∙ asked.whole in (
          filling_all i (subset_count (up_to_three n)) (weight_at n M W s) old weights inv.filling e
              ∙ filled_whole (table (subset_count (up_to_three n)) (weight_at n M W s)) old (omega (arith, length-table (subset_count (up_to_three n)) (weight_at n M W s), asked.whole))
              ∙ weights_all n M W s,
          inv.tally ∙ ap (λ (ss : List (List ℕ)). evaluation_tally ss (counted t)) (take_all i (order (up_to_three n)) (omega arith)),
        )

    module _ (h : i < length old) where
      pub below : i < subset_count (up_to_three n)
      below = omega (arith, asked.whole)

      pub ranged : OnSubset n p
      ranged = in_range_lem n i asked.readable.few below p inv.there

      pub room : TallyRoom 1 7 u
      room =
          let le = evaluating_le (take i (order (up_to_three n))) (counted t) in
          let few : length (take i (order (up_to_three n))) ≡ i = length-take-le i (order (up_to_three n)) (omega (arith, below)) in
          record {
            comparisons = omega (arith, ap (λ (x : Tallies.Tally). x.comparisons) inv.tally, le.0, asked.room.comparisons);
            products = omega (arith, ap (λ (x : Tallies.Tally). x.products) inv.tally, le.1, asked.room.products);
          }

      subset_is : subset_at n p ≡ get_or (order (up_to_three n)) i []
      subset_is = stands_at n i asked.readable.few below p inv.there

      module _ (x : ℕ) (ex : x ≡ subset_weight (entry M n) (entry W n) s (subset_at n p)) where
        weight_is : x ≡ weight_at n M W s i
        weight_is = ex ∙ ap (subset_weight (entry M n) (entry W n) s) subset_is

        pub again : (ws : List ℕ) → ws ≡ set weights i x → (v : Tally) → counted v ≡ evaluation_tally (subset_at n p ∷ []) (counted u) → (q : Places) → q ≡ places_at (up_to_three n) (i + 1)
            → Evaluated n M W s old t ws q v (i + 1)
        again ws ews v ev q eq = subst (λ (z : List ℕ). Evaluated n M W s old t z q v (i + 1)) (sym ews) record {
          there = eq;
          filling = filling_more i (weight_at n M W s) old weights x inv.filling weight_is (omega (arith, kept));
          tally = ev
              ∙ ap (λ (c : List ℕ). evaluation_tally (c ∷ []) (counted u)) subset_is
              ∙ ap (evaluation_tally (get_or (order (up_to_three n)) i [] ∷ [])) inv.tally
              ∙ sym (evaluating_append (take i (order (up_to_three n))) (get_or (order (up_to_three n)) i [] ∷ []) (counted t))
              ∙ ap (λ (ss : List (List ℕ)). evaluation_tally ss (counted t)) (sym (take-suc (order (up_to_three n)) i [] below) ∙ ap (λ (k : ℕ). take k (order (up_to_three n))) (sym (add-one i)));
        }
