-- Evaluation and all rounds. Assumes nothing.
use Prim.Native.Nat.{ℕ, ◌*◌, ◌≤◌}
use mathlib.Core.List.{List, map}
use mathlib.Core.Path.{◌≡◌, ap, ap₂, ◌∙◌}
use native.Mathlib.Nat.{mul-le-mul}
use native.Mathlib.Omega.{arith}
use lib.ListN.{length, length-map}
use Rattle.greedy.specs.Tally as Tallies
use Rattle.greedy.specs.Rounds.{Left, rounds}
use Rattle.exchange.specs.Subsets.{up_to_three, order, subset_count, entry, subset_weight, evaluation_tally}
use Rattle.exchange.specs.Input.{input_of, request}
use Rattle.exchange.specs.Planning.{round_count, left_by}
use Rattle.gates.specs.Counting.{counted}
use Rattle.gates.specs.declared.Tally.{Tally}
use Rattle.cursor.proofs.Number.{count_le}
use Rattle.evaluation.proofs.AllWeights.{evaluating_le}
use Rattle.rounds.specs.Preconditions.{Rounding}
use Rattle.planner.specs.Preconditions.{Stepping}

module _ (n f : ℕ) (M W s weights choices : List ℕ) (asked : Stepping (request n f M W s) weights choices) (zeros : Tally) (none : counted zeros ≡ Tallies.tally 0 0 0) where
  few : subset_count (up_to_three n) ≤ 1333333
  few = count_le n asked.readable.few

  module _ (evaluated : List ℕ) (t : Tally)
      (e : (evaluated ≡ map (subset_weight (entry M n) (entry W n) s) (order (up_to_three n))) × (counted t ≡ evaluation_tally (order (up_to_three n)) (counted zeros))) where
    long : length evaluated ≡ subset_count (up_to_three n)
    long = ap length e.0 ∙ length-map (order (up_to_three n)) (subset_weight (entry M n) (entry W n) s)

    pub asks_rounds : Rounding (up_to_three n) evaluated choices t
    asks_rounds =
        let le = evaluating_le (order (up_to_three n)) (counted zeros) in
        let half : length choices ≤ 100 = omega (arith, asked.all, asked.readable.few) in
        let some : length evaluated ≤ 1333333 = omega (arith, long, few) in
        let eight : 8 * length evaluated ≤ 8 * 1333333 = omega (arith, some) in
        let products : length choices * (8 * length evaluated) ≤ 100 * (8 * 1333333) = mul-le-mul half eight in
        let comparisons : length choices * length evaluated ≤ 100 * 1333333 = mul-le-mul half some in
        record {
          few = asked.readable.few;
          whole = long;
          all = asked.all;
          room = record {
            comparisons = omega (arith, ap (λ (x : Tallies.Tally). x.comparisons) none, ap (λ (x : Tallies.Tally). x.comparisons) e.1, le.0, few);
            products = omega (arith, ap (λ (x : Tallies.Tally). x.products) none, ap (λ (x : Tallies.Tally). x.products) e.1, le.1, few);
            rounds = omega (arith, ap (λ (x : Tallies.Tally). x.rounds) none, ap (λ (x : Tallies.Tally). x.rounds) e.1, le.2);
          };
        }

    pub stepped : (l : Left) → l ≡ rounds f (length choices) (order (up_to_three n)) evaluated (counted t) → l ≡ left_by (input_of (request n f M W s))
    unfolding left_by
    stepped l el =
        el ∙ ap (λ (k : ℕ). rounds f k (order (up_to_three n)) evaluated (counted t)) asked.all
        ∙ ap₂ (λ (ws : List ℕ) (u : Tallies.Tally). rounds f (round_count n) (order (up_to_three n)) ws u) e.0 (e.1 ∙ ap (evaluation_tally (order (up_to_three n))) none)
