-- All subsets after the choice, one after another. Assumes nothing.
use Prim.Native.Nat.{ℕ, zero, suc, ◌+◌, ◌*◌, ◌≤◌, ◌<◌}
use mathlib.Core.Bool.{cond}
use mathlib.Core.List.{List, [], ◌∷◌}
use mathlib.Core.Path.{◌≡◌, refl, sym, ap, ap₂, subst, ◌∙◌}
use native.Mathlib.Nat.{not-suc-le-zero, le_of_suc-le-suc}
use native.Mathlib.Numerals.{add-one}
use native.Mathlib.Omega.{arith}
use lib.ListN.{length, get_or, take, set}
use lib.Seq.{take-suc, take_all}
use Rattle.laws.specs.Below.{table}
use Rattle.laws.proofs.Below.{table-get_or, length-table}
use Rattle.laws.proofs.Lent.{Filling, filling_none, filling_more, filling_all}
use Rattle.laws.proofs.Whole.{filled_whole, filling_next}
use Rattle.greedy.specs.Tally as Tallies
use Rattle.greedy.specs.Tally.{raise}
use Rattle.greedy.specs.Places.{meets}
use Rattle.greedy.specs.Rounds.{clear, clearing_tally}
use Rattle.greedy.proofs.Tallied.{clear-length, clearing_append}
use Rattle.exchange.specs.Subsets.{up_to_three, order, subset_count}
use Rattle.gates.specs.Counting.{counted, TallyRoom}
use Rattle.gates.specs.declared.SecretPlaces.{SecretPlaces}
use Rattle.gates.specs.declared.Tally.{Tally}
use Rattle.cursor.specs.Cursor.{OnSubset, places_at, shown, subset_at}
use Rattle.cursor.specs.declared.Places.{Places}
use Rattle.cursor.proofs.Order.{Subset, two, three, is_subset, in_range_lem}
use Rattle.cursor.proofs.Standing.{stands_at}
use Rattle.clearing.specs.Preconditions.{Clearing}

-- ## The tally

-- a subset of number k has at most three places
size_le : {n : ℕ} {s : List ℕ} → Subset n s → length s ≤ 3
size_le (two p q) = omega arith
size_le (three p q r) = omega arith

-- the first i subsets
module _ (n : ℕ) (few : n ≤ 200) (t : Tallies.Tally) where
  next-tally : (i : ℕ) → i < subset_count (up_to_three n) → clearing_tally (take (suc i) (order (up_to_three n))) t ≡ raise 0 (length (get_or (order (up_to_three n)) i [])) (clearing_tally (take i (order (up_to_three n))) t)
  unfolding clearing_tally
  next-tally i h =
      ap (λ (ss : List (List ℕ)). clearing_tally ss t) (take-suc (order (up_to_three n)) i [] h) ∙ clearing_append (take i (order (up_to_three n))) (get_or (order (up_to_three n)) i [] ∷ []) t

  pub upto_le : (i : ℕ) → i ≤ subset_count (up_to_three n) → let u = clearing_tally (take i (order (up_to_three n))) t in (u.comparisons ≡ t.comparisons) × (u.products ≤ t.products + 3 * i) × (u.rounds ≡ t.rounds)
  unfolding clearing_tally raise
  upto_le zero h = (refl, omega arith, refl)
  upto_le (suc i) h =
      let ih = upto_le i (omega arith) in
      let e = next-tally i h in (
        ap (λ (x : Tallies.Tally). x.comparisons) e ∙ omega (arith, ih.0),
        omega (arith, ap (λ (x : Tallies.Tally). x.products) e, ih.1, size_le (is_subset n i few h)),
        ap (λ (x : Tallies.Tally). x.rounds) e ∙ ih.2,
      )

  pub clearing_le : let u = clearing_tally (order (up_to_three n)) t in (u.comparisons ≡ t.comparisons) × (u.products ≤ t.products + 3 * subset_count (up_to_three n)) × (u.rounds ≡ t.rounds)
  clearing_le =
      let e = take_all (subset_count (up_to_three n)) (order (up_to_three n)) (omega arith) in
      rw e at (upto_le (subset_count (up_to_three n)) (omega arith))

-- ## The weights

-- the weight of number i after a choice c
abbrev pub cleared_at : List ℕ → List (List ℕ) → List ℕ → ℕ → ℕ
cleared_at c ss old i = cond (meets (get_or ss i []) c) 0 (get_or old i 0)

clear_at : (c : List ℕ) (ss : List (List ℕ)) (old : List ℕ) (i : ℕ) → i < length ss → i < length old → cleared_at c ss old i ≡ get_or (clear c ss old) i 0
unfolding clear
clear_at c [] old i h g = absurd (not-suc-le-zero h)
clear_at c (s ∷ ss) [] i h g = absurd (not-suc-le-zero g)
clear_at c (s ∷ ss) (x ∷ old) zero h g = refl
clear_at c (s ∷ ss) (x ∷ old) (suc i) h g = clear_at c ss old i (le_of_suc-le-suc h) (le_of_suc-le-suc g)

clear_all : (c : List ℕ) (ss : List (List ℕ)) (old : List ℕ) → length old ≡ length ss → table (length ss) (cleared_at c ss old) ≡ clear c ss old
clear_all c ss old e =
    table-get_or 0 (clear c ss old) (length ss) (cleared_at c ss old) (clear-length c ss old ∙ e) (λ i h. clear_at c ss old i h (omega arith))

-- ## The loop of `all_cleared`, before the subset of number i

pub record Cleared (n : ℕ) (old : List ℕ) (choice : SecretPlaces) (t : Tally) (weights : List ℕ) (p : Places) (u : Tally) (i : ℕ) : Type 0 where
  pub there : p ≡ places_at (up_to_three n) i
  pub filling : Filling i (cleared_at (subset_at n (shown choice)) (order (up_to_three n)) old) old weights
  pub tally : counted u ≡ clearing_tally (take i (order (up_to_three n))) (counted t)

module _ (n : ℕ) (old : List ℕ) (choice : SecretPlaces) (t : Tally) (asked : Clearing (up_to_three n) old t) where
  f : ℕ → ℕ
  f = cleared_at (subset_at n (shown choice)) (order (up_to_three n)) old

  pub begins : (p : Places) → p ≡ places_at (up_to_three n) 0 → Cleared n old choice t old p t 0
  unfolding clearing_tally
  begins p e = record { there = e; filling = filling_none _ old; tally = refl }

  module _ (weights : List ℕ) (p : Places) (u : Tally) (i : ℕ) (inv : Cleared n old choice t weights p u i) where
    pub kept : length weights ≡ length old
    kept = inv.filling.kept

    pub ends : i ≡ length old → (weights ≡ clear (subset_at n (shown choice)) (order (up_to_three n)) old) × (counted u ≡ clearing_tally (order (up_to_three n)) (counted t))
    unfolding f
    ends h =
        let e : i ≡ subset_count (up_to_three n) = h ∙ asked.whole in (
          filling_all i (subset_count (up_to_three n)) f old weights inv.filling e
              ∙ filled_whole (table (subset_count (up_to_three n)) f) old (omega (arith, length-table (subset_count (up_to_three n)) f, asked.whole))
              ∙ clear_all (subset_at n (shown choice)) (order (up_to_three n)) old asked.whole,
          inv.tally ∙ ap (λ (ss : List (List ℕ)). clearing_tally ss (counted t)) (take_all i (order (up_to_three n)) (omega arith)),
        )

    module _ (h : i < length old) where
      pub below : i < subset_count (up_to_three n)
      below = omega (arith, asked.whole)

      pub ranged : OnSubset n p
      ranged = in_range_lem n i asked.few below p inv.there

      pub room : TallyRoom 0 3 u
      room =
          let le = upto_le n asked.few (counted t) i (omega (arith, below)) in
          record {
            comparisons = omega (arith, ap (λ (x : Tallies.Tally). x.comparisons) inv.tally, le.0, asked.room.comparisons);
            products = omega (arith, ap (λ (x : Tallies.Tally). x.products) inv.tally, le.1, asked.room.products);
          }

      subset_is : subset_at n p ≡ get_or (order (up_to_three n)) i []
      subset_is = stands_at n i asked.few below p inv.there

      module _ (y : ℕ) (ey : y ≡ get_or weights i 0) (x : ℕ) (eyx : x ≡ cond (meets (subset_at n p) (subset_at n (shown choice))) 0 y) where
        ex : x ≡ cond (meets (subset_at n p) (subset_at n (shown choice))) 0 (get_or weights i 0)
        ex = eyx ∙ ap (cond (meets (subset_at n p) (subset_at n (shown choice))) 0) ey

        pub again : (ws : List ℕ) → ws ≡ set weights i x → (v : Tally) → counted v ≡ clearing_tally (subset_at n p ∷ []) (counted u) → (q : Places) → q ≡ places_at (up_to_three n) (i + 1)
            → Cleared n old choice t ws q v (i + 1)
        unfolding f
        again ws ews v ev q eq = subst (λ (z : List ℕ). Cleared n old choice t z q v (i + 1)) (sym ews) record {
          there = eq;
          filling = filling_more i f old weights x inv.filling
              (ex ∙ ap₂ (λ (s : List ℕ) (y : ℕ). cond (meets s (subset_at n (shown choice))) 0 y) subset_is (filling_next i f old weights inv.filling))
              (omega (arith, kept));
          tally = ev
              ∙ ap (λ (c : List ℕ). clearing_tally (c ∷ []) (counted u)) subset_is
              ∙ ap (clearing_tally (get_or (order (up_to_three n)) i [] ∷ [])) inv.tally
              ∙ sym (clearing_append (take i (order (up_to_three n))) (get_or (order (up_to_three n)) i [] ∷ []) (counted t))
              ∙ ap (λ (ss : List (List ℕ)). clearing_tally ss (counted t)) (sym (take-suc (order (up_to_three n)) i [] below) ∙ ap (λ (k : ℕ). take k (order (up_to_three n))) (sym (add-one i)));
        }

-- ## Where so many rounds are left
