-- The planned cycles against every rival set. Assumes nothing.
use Prim.Native.Nat.{ℕ, ◌+◌, ◌*◌, ◌≤◌, ◌<◌}
use mathlib.Core.List.{List, [], ◌∷◌, ◌++◌, map}
use mathlib.Core.Logic.{◌⊎◌, inl, inr}
use mathlib.Core.Path.{◌≡◌, refl, sym, ap, ap₂, ◌∙◌}
use native.Mathlib.Omega.{arith}
use native.Mathlib.Nat.{le_of_eq, le_trans}
use native.Mathlib.Decide.{dec_lt}
use lib.ListN.{length, get_or, length-append, length-map, get_or-map, get_or-eq_default}
use borrow.Author.Tests.{lt-ltb, le-ltb}
use Rattle.greedy.specs.Tally.{tally}
use Rattle.greedy.specs.Promises.{first_at}
use Rattle.greedy.proofs.Counts.{times, NoneTwice, AllBelow, Alike, one_same, split_at, times_append, alike_length}
use Rattle.greedy.proofs.Bound.{places, value, credit, Family, charge, charge_append, charge_once, charge_alike, subset_charge, credit_most, chosen_apart}
use Rattle.exchange.specs.Subsets.{subsets, cycles, edges, product_of, sum_of, weigh, heaviest, pairs_at, best_cycle, subset_weight, evaluation_tally}
use Rattle.exchange.specs.Resolution.{resolved, total}
use Rattle.exchange.specs.Input.{input_with}
use Rattle.exchange.specs.Planning.{round_count, left_by, planned_by}
use Rattle.exchange.specs.Rivals.{Each}
use Rattle.exchange.specs.Credit.{credited}
use Rattle.exchange.proofs.Ordered.{Subset, subsets_all, each_at, each_mono, arrange, arrange_alike, subset_at_lem, mem-map}
use Rattle.exchange.proofs.Weighed.{weigh_rotate, mem-orders, heaviest_each, heaviest_alike}
use Rattle.exchange.proofs.Inverse.{Invertible, seats, pairs_seats, seats_below, seats_times, pairs_times}

-- the weights as evaluated
abbrev pub weights_of : ℕ → ℕ → (ℕ → ℕ → ℕ) → (ℕ → ℕ → ℕ) → List ℕ → List ℕ
weights_of l n m w s = map (subset_weight m w s) (subsets l n)

-- the weight of a cycle of places
abbrev score : (ℕ → ℕ → ℕ) → (ℕ → ℕ → ℕ) → List ℕ → List ℕ → ℕ
score m w s c = weigh m w (pairs_at s c)

-- the pairs of all the cycles
unfoldable pub joined : List (List ℕ) → List ℕ
joined [] = []
joined (c ∷ cs) = c ++ joined cs

pub map-append : (f : ℕ → ℕ) (a b : List ℕ) → map f (a ++ b) ≡ map f a ++ map f b
map-append f [] b = refl
map-append f (x ∷ a) b = ap (λ (l : List ℕ). f x ∷ l) (map-append f a b)

-- ---- a cycle of places weighs no more than its subset

score_rotate : (m w : ℕ → ℕ → ℕ) (s a : List ℕ) (u : ℕ) (b : List ℕ) → score m w s (a ++ u ∷ b) ≡ score m w s (u ∷ (b ++ a))
unfolding pairs_at
score_rotate m w s a u b =
    ap (weigh m w) (map-append (λ (p : ℕ). get_or s p 0) a (u ∷ b)) ∙ weigh_rotate m w (pairs_at s a) (get_or s u 0) (pairs_at s b)
    ∙ ap (λ (l : List ℕ). weigh m w (get_or s u 0 ∷ l)) (sym (map-append (λ (p : ℕ). get_or s p 0) b a))

best_cycle-most : (m w : ℕ → ℕ → ℕ) (s q t : List ℕ) → Alike q t → length q ≡ length t → score m w s q ≤ score m w s (best_cycle m w s t)
unfolding best_cycle times cycles heaviest
best_cycle-most m w s q [] h e = none q e
  where
    none : (q : List ℕ) → length q ≡ 0 → score m w s q ≤ score m w s (best_cycle m w s [])
    none [] e = omega arith
    none (x ∷ q) e = absurd (omega arith)
best_cycle-most m w s q (u ∷ t) h e = go (split_at u q (omega (arith, h u, one_same u)))
  where
    go : (a : List ℕ) × (b : List ℕ) × (q ≡ a ++ u ∷ b) → score m w s q ≤ score m w s (best_cycle m w s (u ∷ t))
    go (a, b, k) =
        let long : length (b ++ a) ≡ length t = omega (arith, length-append b a, e, ap length k, length-append a (u ∷ b)) in
        let like : Alike (b ++ a) t = λ p. omega (arith, h p, rw k at (h p), times_append p a (u ∷ b), times_append p b a) in
        le_trans (le_of_eq (ap (score m w s) k ∙ score_rotate m w s a u b))
        (heaviest_each (score m w s) (cycles (u ∷ t)) (u ∷ (b ++ a)) (mem-map (λ (l : List ℕ). u ∷ l) (mem-orders (length t) (b ++ a) t long like)))

-- ---- the table of subsets and weights

-- a subset's weight, by its number: what is no subset weighs 0
pub weight_at_lem : (l n : ℕ) (m w : ℕ → ℕ → ℕ) (s : List ℕ) (i : ℕ)
    → get_or (weights_of l n m w s) i 0 ≡ score m w s (best_cycle m w s (get_or (subsets l n) i []))
unfolding subset_weight best_cycle cycles heaviest pairs_at weigh edges product_of sum_of
weight_at_lem l n m w s i = get_or-map (subset_weight m w s) (subsets l n) i []

subset_is : (l n i : ℕ) → (Subset l n (get_or (subsets l n) i [])) ⊎ (get_or (subsets l n) i [] ≡ [])
subset_is l n i = each_at (λ (t : List ℕ). Subset l n t ⊎ (t ≡ [])) (subsets l n) (inr refl) (each_mono (Subset l n) (λ (t : List ℕ). Subset l n t ⊎ (t ≡ [])) (λ t h. inl h) (subsets l n) (subsets_all l n)) i

nothing : (m w : ℕ → ℕ → ℕ) (s : List ℕ) → score m w s (best_cycle m w s []) ≡ 0
unfolding best_cycle cycles heaviest pairs_at weigh edges product_of sum_of
nothing m w s = refl

pub family : (l n : ℕ) (m w : ℕ → ℕ → ℕ) (s : List ℕ) → Family n (subsets l n) (weights_of l n m w s)
unfolding times
family l n m w s = record {
  once = λ i p. elim (subset_is l n i) [ inl h ↦ h.once p | inr e ↦ rw e (omega arith) ];
  below = λ i p q. elim (subset_is l n i) [ inl h ↦ h.below p q | inr e ↦ rw e ];
  wide = λ i h. elim (subset_is l n i) [ inl k ↦ k.least | inr e ↦ absurd (omega (arith, h, rw e at (weight_at_lem l n m w s i), nothing m w s)) ];
}

pub size_most : (l n i : ℕ) → length (get_or (subsets l n) i []) ≤ l
size_most l n i = elim (subset_is l n i) [ inl h ↦ h.most | inr e ↦ rw e (omega arith) ]

-- ---- the theorem

-- a rival cycle: two to l pairs of the pool, of a weight above the floor
pub record Rival (f l n : ℕ) (m w : ℕ → ℕ → ℕ) (c : List ℕ) : Type 0 where
  pub least : 2 ≤ length c
  pub most : length c ≤ l
  pub below : AllBelow n c
  pub above : f < weigh m w c

-- the subset of a cycle of pairs: it has the pairs' places, and weighs at least as much
module _ (l n : ℕ) (m w : ℕ → ℕ → ℕ) (s : List ℕ) (sh : Invertible n s) where
  seated : (c : List ℕ) → AllBelow n c → weigh m w c ≡ score m w s (seats s c)
  seated c b = ap (weigh m w) (sym (pairs_seats n s sh c b))

  cycle_at : (c : List ℕ) → NoneTwice c → AllBelow n c → 2 ≤ length c → length c ≤ l
      → (i : ℕ) × Alike (seats s c) (get_or (subsets l n) i []) × (weigh m w c ≤ get_or (weights_of l n m w s) i 0)
  cycle_at c o b h k = go (subset_at_lem l n q oq bq (omega (arith, lq)) (omega (arith, lq)))
    where
      q : List ℕ
      q = seats s c

      oq : NoneTwice q
      oq p = omega (arith, seats_times n s sh c b p, o (get_or s p 0))

      bq : AllBelow n q
      bq = seats_below n s sh c b

      lq : length q ≡ length c
      lq = length-map c (λ (a : ℕ). first_at a s)

      go : (i : ℕ) × (get_or (subsets l n) i [] ≡ arrange 0 n q)
          → (i : ℕ) × Alike q (get_or (subsets l n) i []) × (weigh m w c ≤ get_or (weights_of l n m w s) i 0)
      go (i, e) =
          let t : List ℕ = get_or (subsets l n) i [] in
          let like : Alike q t = λ p. rw e (sym (arrange_alike n q oq bq p)) in
          let size : length q ≡ length t = sym (alike_length n t q bq (λ p. sym (like p))) in
          (i, like, omega (arith, seated c b, weight_at_lem l n m w s i, best_cycle-most m w s q t like size))

module _ (f l n : ℕ) (m w : ℕ → ℕ → ℕ) (s : List ℕ) (sh : Invertible n s) where
  -- what the chosen subsets bear for the pairs of c
  bears : List ℕ → ℕ
  bears c = charge (subsets l n) (weights_of l n m w s) (left_by (input_with f l n m w s)).choices (seats s c)

  bears_append : (c d : List ℕ) → bears (c ++ d) ≡ bears c + bears d
  unfolding bears
  bears_append c d = rw map-append (charge_append (subsets l n) (weights_of l n m w s) (left_by (input_with f l n m w s)).choices (seats s c) (seats s d))

  cycle_bears : (c : List ℕ) → NoneTwice c → Rival f l n m w c → weigh m w c ≤ bears c
  unfolding bears left_by
  cycle_bears c o h = go (cycle_at l n m w s sh c o h.below h.least h.most)
    where
      go : (i : ℕ) × Alike (seats s c) (get_or (subsets l n) i []) × (weigh m w c ≤ get_or (weights_of l n m w s) i 0) → weigh m w c ≤ bears c
      go (i, like, k) = omega (
        arith,
        charge_alike (subsets l n) (weights_of l n m w s) (left_by (input_with f l n m w s)).choices (seats s c) (get_or (subsets l n) i []) like,
        subset_charge f n (round_count n) (subsets l n) (weights_of l n m w s) (evaluation_tally (subsets l n) (tally 0 0 0)) (family l n m w s) (omega arith) i (omega (arith, h.above)),
      )

  total_bears : (cs : List (List ℕ)) → Each (Rival f l n m w) cs → NoneTwice (joined cs) → total m w cs ≤ bears (joined cs)
  unfolding total joined
  total_bears [] h o = omega arith
  total_bears (c ∷ cs) h o =
      let oc : NoneTwice c = λ p. omega (arith, o p, times_append p c (joined cs)) in
      let os : NoneTwice (joined cs) = λ p. omega (arith, o p, times_append p c (joined cs)) in
      omega (arith, cycle_bears c oc h.0, total_bears cs h.1 os, bears_append c (joined cs))

  joined_below : (cs : List (List ℕ)) → Each (Rival f l n m w) cs → AllBelow n (joined cs)
  unfolding joined times
  joined_below [] h p k = refl
  joined_below (c ∷ cs) h p k = rw times_append (omega (arith, h.0.below p k, joined_below cs h.1 p k))

  -- the chosen subsets' weights, each times its number of places, are at least the weight of any rival set
  pub rivals_credit : (cs : List (List ℕ)) → Each (Rival f l n m w) cs → NoneTwice (joined cs)
      → total m w cs ≤ credit (subsets l n) (weights_of l n m w s) (left_by (input_with f l n m w s)).choices
  unfolding bears
  rivals_credit cs h o =
      let b : AllBelow n (joined cs) = joined_below cs h in
      omega (
        arith,
        total_bears cs h o,
        charge_once (subsets l n) (weights_of l n m w s) (left_by (input_with f l n m w s)).choices (seats s (joined cs))
            (λ p. omega (arith, seats_times n s sh (joined cs) b p, o (get_or s p 0))),
      )

-- ---- the planned cycles

pub best_cycle_alike : (m w : ℕ → ℕ → ℕ) (s t : List ℕ) → Alike (best_cycle m w s t) t
unfolding best_cycle
best_cycle_alike m w s t = heaviest_alike (score m w s) t

module _ (l n : ℕ) (m w : ℕ → ℕ → ℕ) (s : List ℕ) where
  -- a number past the subsets stands for none
  past : (c : ℕ) → length (subsets l n) ≤ c → get_or (weights_of l n m w s) c 0 ≡ 0
  past c h = weight_at_lem l n m w s c ∙ (rw (get_or-eq_default (subsets l n) [] h) (nothing m w s))

  -- a chosen cycle has as many pairs as its subset has places
  pub planned_size : (c : ℕ) → length (pairs_at s (best_cycle m w s (get_or (subsets l n) c []))) ≡ length (get_or (subsets l n) c [])
  unfolding pairs_at
  planned_size c =
      let t : List ℕ = get_or (subsets l n) c [] in
      length-map (best_cycle m w s t) (λ (p : ℕ). get_or s p 0) ∙ alike_length n (best_cycle m w s t) t ((family l n m w s).below c) (best_cycle_alike m w s t)

  pub planned-weight : (c : ℕ) → weigh m w (pairs_at s (best_cycle m w s (get_or (subsets l n) c []))) ≡ get_or (weights_of l n m w s) c 0
  planned-weight c = sym (weight_at_lem l n m w s c)

  resolve_total : (cs : List ℕ) → total m w (resolved m w s (subsets l n) cs) ≡ value (weights_of l n m w s) cs
  unfolding resolved total value
  resolve_total [] = refl
  resolve_total (c ∷ cs) = elim (dec_lt c (length (subsets l n))) [
    | yes h ↦ rw (lt-ltb c (length (subsets l n)) h) (omega (arith, resolve_total cs, planned-weight c))
    | no h ↦ let k : length (subsets l n) ≤ c = omega arith in rw (le-ltb c (length (subsets l n)) k) (omega (arith, resolve_total cs, past c k))
  ]

  resolve_credited : (cs : List ℕ) → credited m w (resolved m w s (subsets l n) cs) ≡ credit (subsets l n) (weights_of l n m w s) cs
  unfolding resolved credited credit
  resolve_credited [] = refl
  resolve_credited (c ∷ cs) = elim (dec_lt c (length (subsets l n))) [
    | yes h ↦ rw (lt-ltb c (length (subsets l n)) h) (ap₂ ◌+◌ (ap₂ ◌*◌ (planned-weight c) (planned_size c)) (resolve_credited cs))
    | no h ↦ let k : length (subsets l n) ≤ c = omega arith in rw (le-ltb c (length (subsets l n)) k, past c k) (omega (arith, resolve_credited cs))
  ]

  module _ (sh : Invertible n s) where
    pub cycle-below : (c : ℕ) → AllBelow n (best_cycle m w s (get_or (subsets l n) c []))
    cycle-below c p h = omega (arith, best_cycle_alike m w s (get_or (subsets l n) c []) p, (family l n m w s).below c p h)

    resolve_times : (cs : List ℕ) (a : ℕ) → times a (joined (resolved m w s (subsets l n) cs)) ≤ times (first_at a s) (places (subsets l n) cs)
    unfolding resolved joined places times
    resolve_times [] a = omega arith
    resolve_times (c ∷ cs) a = elim (dec_lt c (length (subsets l n))) [
      | yes h ↦ rw (lt-ltb c (length (subsets l n)) h) (omega (
        arith,
        resolve_times cs a,
        times_append a (pairs_at s (best_cycle m w s (get_or (subsets l n) c []))) (joined (resolved m w s (subsets l n) cs)),
        times_append (first_at a s) (get_or (subsets l n) c []) (places (subsets l n) cs),
        pairs_times n s sh (best_cycle m w s (get_or (subsets l n) c [])) (cycle-below c) a,
        best_cycle_alike m w s (get_or (subsets l n) c []) (first_at a s),
      ))
      | no h ↦ let k : length (subsets l n) ≤ c = omega arith in rw (le-ltb c (length (subsets l n)) k) (omega (
        arith,
        resolve_times cs a,
        times_append (first_at a s) (get_or (subsets l n) c []) (places (subsets l n) cs),
      ))
    ]

-- ---- what is promised of a plan

module _ (f l n : ℕ) (m w : ℕ → ℕ → ℕ) (s : List ℕ) (sh : Invertible n s) where
  -- no pair is in two planned cycles, or twice in one
  pub planned_apart : NoneTwice (joined (planned_by (input_with f l n m w s)))
  unfolding planned_by left_by
  planned_apart a = le_trans (resolve_times l n m w s sh (left_by (input_with f l n m w s)).choices a)
      (chosen_apart f n (round_count n) (subsets l n) (weights_of l n m w s) (evaluation_tally (subsets l n) (tally 0 0 0)) (family l n m w s) (first_at a s))

  -- each planned cycle's weight times its number of pairs, added up, is at least the weight of any rival set
  pub planned_credit : (cs : List (List ℕ)) → Each (Rival f l n m w) cs → NoneTwice (joined cs) → total m w cs ≤ credited m w (planned_by (input_with f l n m w s))
  unfolding planned_by
  planned_credit cs h o = rw resolve_credited (rivals_credit f l n m w s sh cs h o)

  -- and l times the plan's weight is
  pub planned_factor : (cs : List (List ℕ)) → Each (Rival f l n m w) cs → NoneTwice (joined cs) → total m w cs ≤ l * total m w (planned_by (input_with f l n m w s))
  unfolding planned_by
  planned_factor cs h o = rw resolve_total (le_trans (rivals_credit f l n m w s sh cs h o)
      (credit_most l (subsets l n) (weights_of l n m w s) (left_by (input_with f l n m w s)).choices (size_most l n)))
