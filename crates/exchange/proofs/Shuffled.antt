-- The plan is that of Algorithm 1: in its cycles, and in each pair's donor and recipient. Assumes nothing.
use Prim.Native.Nat.{ℕ, suc, ◌+◌, ◌*◌, ◌≤◌}
use mathlib.Core.Bool.{Bool, true, false, cond}
use mathlib.Core.List.{List, [], ◌∷◌, ◌++◌, map}
use mathlib.Core.Path.{◌≡◌, refl, sym, ap, ap₂, ◌∙◌}
use native.Mathlib.Omega.{arith}
use lib.Dec.{ltb}
use lib.ListN.{length, get_or}
use borrow.Author.Tests.{eq-eqb}
use Rattle.laws.specs.Below.{either}
use Rattle.greedy.specs.Places.{among, meets}
use Rattle.greedy.specs.Tally.{tally}
use Rattle.greedy.specs.Promises.{greatest, cleared}
use Rattle.greedy.proofs.Bound.{rounds-picks, cleared_quiet}
use Rattle.exchange.specs.Subsets.{subsets, order, subset_count, cycles, Edge, along, edges, product_of, sum_of, weigh, heaviest, pairs_at, best_cycle, subset_weight, evaluation_tally}
use Rattle.exchange.specs.Resolution.{resolved}
use Rattle.exchange.specs.Input.{input_with}
use Rattle.exchange.specs.Planning.{round_count, left_by, planned_by}
use Rattle.exchange.specs.Algorithm1 as Algorithm1
use Rattle.exchange.specs.Promises.{LoopEnds}
use Rattle.exchange.specs.Rivals.{Each}
use Rattle.exchange.proofs.Ordered.{Subset, subsets_all, each_mono}
use Rattle.exchange.proofs.Charged.{map-append, weights_of, family}
use Rattle.exchange.proofs.Loop.{Meeting, loop_ends, chosen_of, rounds-loop}

-- ---- the shuffled graph weighs a cycle of nodes as the pairs' tables weigh its pairs

-- an edge between the pairs at its two places
abbrev pub moved : List ℕ → Edge → Edge
moved s e = record { donor = get_or s e.donor 0; patient = get_or s e.patient 0 }

along_pairs : (s c : List ℕ) → along (pairs_at s c) ≡ map (moved s) (along c)
unfolding along pairs_at
along_pairs s [] = refl
along_pairs s (a ∷ []) = refl
along_pairs s (a ∷ b ∷ c) = ap (λ (es : List Edge). moved s (record { donor = a; patient = b }) ∷ es) (along_pairs s (b ∷ c))

pub edges_pairs : (s c : List ℕ) → edges (pairs_at s c) ≡ map (moved s) (edges c)
unfolding edges pairs_at
edges_pairs s [] = refl
edges_pairs s (a ∷ c) = ap (λ (l : List ℕ). along (get_or s a 0 ∷ l)) (sym (map-append (λ (p : ℕ). get_or s p 0) c (a ∷ []))) ∙ along_pairs s (a ∷ c ++ (a ∷ []))

product_moved : (s : List ℕ) (m : ℕ → ℕ → ℕ) (es : List Edge) → product_of (Algorithm1.shuffled s m) es ≡ product_of m (map (moved s) es)
unfolding product_of Algorithm1.shuffled
product_moved s m [] = refl
product_moved s m (e ∷ es) = ap (λ (z : ℕ). m (get_or s e.donor 0) (get_or s e.patient 0) * z) (product_moved s m es)

sum_moved : (s : List ℕ) (w : ℕ → ℕ → ℕ) (es : List Edge) → sum_of (Algorithm1.shuffled s w) es ≡ sum_of w (map (moved s) es)
unfolding sum_of Algorithm1.shuffled
sum_moved s w [] = refl
sum_moved s w (e ∷ es) = ap (λ (z : ℕ). w (get_or s e.donor 0) (get_or s e.patient 0) + z) (sum_moved s w es)

module _ (m w : ℕ → ℕ → ℕ) (s : List ℕ) where
  weigh-shuffled : (c : List ℕ) → weigh (Algorithm1.shuffled s m) (Algorithm1.shuffled s w) c ≡ weigh m w (pairs_at s c)
  unfolding weigh
  weigh-shuffled c = rw (edges_pairs s c) (ap₂ ◌*◌ (product_moved s m (edges c)) (sum_moved s w (edges c)))

  pub map_is : (t : List ℕ) → Algorithm1.subset_map (Algorithm1.shuffled s m) (Algorithm1.shuffled s w) t ≡ best_cycle m w s t
  unfolding Algorithm1.subset_map best_cycle
  map_is t = ap (λ (g : List ℕ → ℕ). heaviest g (cycles t)) (λ i c. weigh-shuffled c i)

  weight_is : (t : List ℕ) → Algorithm1.subset_weight s m w t ≡ subset_weight m w s t
  unfolding Algorithm1.subset_weight subset_weight
  weight_is t = ap (weigh (Algorithm1.shuffled s m) (Algorithm1.shuffled s w)) (map_is t) ∙ weigh-shuffled (best_cycle m w s t)

  weight_same : Algorithm1.subset_weight s m w ≡ subset_weight m w s
  weight_same = λ i t. weight_is t i

  -- ---- the same cycles

  resolved_chosen : (ss : List (List ℕ)) (cs : List ℕ) → resolved m w s ss cs ≡ map (λ (t : List ℕ). pairs_at s (best_cycle m w s t)) (chosen_of ss cs)
  unfolding resolved chosen_of
  resolved_chosen ss [] = refl
  resolved_chosen ss (c ∷ cs) = go (ltb c (length ss)) (resolved_chosen ss cs)
    where
      go : (b : Bool) → resolved m w s ss cs ≡ map (λ (t : List ℕ). pairs_at s (best_cycle m w s t)) (chosen_of ss cs)
          → cond b (pairs_at s (best_cycle m w s (get_or ss c [])) ∷ resolved m w s ss cs) (resolved m w s ss cs)
          ≡ map (λ (t : List ℕ). pairs_at s (best_cycle m w s t)) (cond b (get_or ss c [] ∷ chosen_of ss cs) (chosen_of ss cs))
      go true e = ap (λ (l : List (List ℕ)). pairs_at s (best_cycle m w s (get_or ss c [])) ∷ l) e
      go false e = e

  chosen_pairs : (ts : List (List ℕ)) → map (pairs_at s) (map (Algorithm1.subset_map (Algorithm1.shuffled s m) (Algorithm1.shuffled s w)) ts) ≡ map (λ (t : List ℕ). pairs_at s (best_cycle m w s t)) ts
  chosen_pairs [] = refl
  chosen_pairs (t ∷ ts) = ap₂ ◌∷◌ (ap (pairs_at s) (map_is t)) (chosen_pairs ts)

greatest-most : (f : ℕ) (ws : List ℕ) → ((i : ℕ) → get_or ws i 0 ≤ f) → greatest ws ≤ f
unfolding greatest
greatest-most f [] h = omega arith
greatest-most f (x ∷ ws) h = omega (arith, h 0, greatest-most f ws (λ i. h (suc i)))

meeting : (l n : ℕ) → Each Meeting (subsets l n)
unfolding meets among either
meeting l n = each_mono (Subset l n) Meeting (λ s h. go s h.least) (subsets l n) (subsets_all l n)
  where
    go : (s : List ℕ) → 2 ≤ length s → meets s s ≡ true
    go [] h = absurd (omega arith)
    go (p ∷ s) h = rw (eq-eqb p p refl)

pub loop_over : LoopEnds
unfolding Algorithm1.looped
loop_over q =
    loop_ends (subset_count q.scope) q.floor (Algorithm1.subset_weight q.shuffle q.compatible q.weight) (order q.scope) (omega arith)
    (meeting q.scope.largest q.scope.pairs)

-- the planned cycles are those of the subsets that the loop chooses
pub loop-cycles : (f l n : ℕ) (m w : ℕ → ℕ → ℕ) (s : List ℕ)
    → planned_by (input_with f l n m w s) ≡ map (λ (t : List ℕ). pairs_at s (best_cycle m w s t)) (Algorithm1.loop (length (subsets l n)) f (subset_weight m w s) (subsets l n)).chosen
unfolding planned_by left_by
loop-cycles f l n m w s =
    let ss : List (List ℕ) = subsets l n in
    let ws : List ℕ = weights_of l n m w s in
    let t = evaluation_tally ss (tally 0 0 0) in
    let quiet : greatest (cleared f (round_count n) ss ws) ≤ f = greatest-most f (cleared f (round_count n) ss ws) (cleared_quiet f n (round_count n) ss ws t (family l n m w s) (omega arith)) in
    resolved_chosen m w s ss (left_by (input_with f l n m w s)).choices
    ∙ ap (λ (cs : List ℕ). map (λ (t : List ℕ). pairs_at s (best_cycle m w s t)) (chosen_of ss cs)) (rounds-picks f (round_count n) ss ws t)
    ∙ ap (map (λ (t : List ℕ). pairs_at s (best_cycle m w s t))) (rounds-loop f (subset_weight m w s) ss (round_count n) quiet (meeting l n))

pub same_cycles : (f l n : ℕ) (m w : ℕ → ℕ → ℕ) (s : List ℕ) → planned_by (input_with f l n m w s) ≡ map (pairs_at s) (Algorithm1.chosen_cycles (input_with f l n m w s))
unfolding Algorithm1.chosen_cycles Algorithm1.looped
same_cycles f l n m w s =
    let ss : List (List ℕ) = subsets l n in
    loop-cycles f l n m w s
    ∙ ap (λ (g : List ℕ → ℕ). map (λ (t : List ℕ). pairs_at s (best_cycle m w s t)) (Algorithm1.loop (length ss) f g ss).chosen) (sym (weight_same m w s))
    ∙ sym (chosen_pairs m w s (Algorithm1.looped (input_with f l n m w s)).chosen)
