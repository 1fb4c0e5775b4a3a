-- The plan from checked input. Assumes nothing.
use Prim.Native.Nat.{ℕ, ◌/◌, ◌≤◌}
use mathlib.Core.List.{List, ◌++◌, map}
use mathlib.Core.Path.{◌≡◌, sym, ap, ◌∙◌}
use native.Mathlib.Omega.{arith}
use lib.ListN.{length, take, drop, length-map}
use lib.Seq.{length-take-le, take_at}
use Rattle.laws.specs.Lent.{filled}
use Rattle.laws.proofs.Below.{length-table}
use Rattle.laws.proofs.Lent.{take-filled}
use Rattle.cycle.specs.declared.Cycle.{Cycle}
use Rattle.greedy.specs.Tally as Tallies
use Rattle.greedy.specs.Rounds.{Left, left}
use Rattle.greedy.proofs.Tallied.{rounds-length}
use Rattle.exchange.specs.Subsets.{up_to_three, order, subset_count, entry, subset_weight}
use Rattle.exchange.specs.Input.{Input, input, input_of, request}
use Rattle.exchange.specs.Resolution.{record_of, donor_table, recipient_table}
use Rattle.exchange.specs.Planning.{lent, plan, round_count, left_by, planned_by, plan_from, filled_lent}
use Rattle.exchange.proofs.Inverse.{Invertible, invertible}
use Rattle.exchange.proofs.Charged.{planned_apart}
use Rattle.exchange.proofs.Planned.{planned_below}
use Rattle.exchange.proofs.Guaranteed.{resolved_few}
use Rattle.gates.specs.Counts.{tally_of}
use Rattle.gates.specs.Counting.{counted}
use Rattle.gates.specs.declared.Counts.{Counts}
use Rattle.gates.specs.declared.Tally.{Tally}
use Rattle.resolution.specs.Records.{given_in, received_in, cycles_of, no_records, resolved_cycles}
use Rattle.resolution.specs.Preconditions.{Resolving}
use Rattle.resolution.specs.declared.Resolved.{Resolved}
use Rattle.resolution.proofs.Partnered.{given_all, received_all}
use Rattle.planner.specs.Answers.{plan_in}
use Rattle.planner.specs.Preconditions.{Stepping, Checked}

abbrev q : ℕ → ℕ → List ℕ → List ℕ → List ℕ → Input
q n f M W s = input_of (request n f M W s)

-- ## What is left has the length due

left-lengths : (n f : ℕ) (m w : ℕ → ℕ → ℕ) (s : List ℕ) → (length (left_by (input n f m w s)).weights ≡ subset_count (up_to_three n)) × (length (left_by (input n f m w s)).choices ≡ round_count n)
unfolding left_by
left-lengths n f m w s =
    let e = rounds-length f (round_count n) (order (up_to_three n)) (map (subset_weight m w s) (order (up_to_three n))) _ in
    (e.0 ∙ length-map (order (up_to_three n)) (subset_weight m w s), e.1)

-- there are no more cycles than rounds
planned_few : (n f : ℕ) (m w : ℕ → ℕ → ℕ) (s : List ℕ) → length (planned_by (input n f m w s)) ≤ round_count n
unfolding planned_by
planned_few n f m w s = omega (arith, resolved_few m w s (order (up_to_three n)) (left_by (input n f m w s)).choices, (left-lengths n f m w s).1)

-- a part of a lent table, from its start
pub front : (k : ℕ) (l : List ℕ) → k ≤ length l → k ≡ length (take k l)
front k l h = sym (length-take-le k l h)

-- filled, with what is past the part
past : (k : ℕ) (new old : List ℕ) → length new ≡ k → new ++ drop k old ≡ filled new old
unfolding filled
past k new old e = ap (λ (j : ℕ). new ++ drop j old) (sym e)

module _ (n f : ℕ) (M W s weights choices donors recipients : List ℕ) (asked : Checked (request n f M W s) weights choices donors recipients) (all : ℕ) (ea : all ≡ subset_count (up_to_three n)) where
  pub weights_front : all ≡ length (take all weights)
  weights_front = front all weights (omega (arith, asked.in_weights))

  pub choices_front : n / 2 ≡ length (take (n / 2) choices)
  choices_front = front (n / 2) choices asked.in_choices

  pub asks_steps : Stepping (request n f M W s) (take all weights) (take (n / 2) choices)
  asks_steps = record {
    readable = asked.readable;
    shuffled = asked.shuffled;
    whole = sym weights_front ∙ ea;
    all = sym choices_front;
  }

  module _ (ws cs : List ℕ) (u : Tally) (e : left ws cs (counted u) ≡ left_by (q n f M W s)) where
    weights_are : ws ≡ (left_by (q n f M W s)).weights
    weights_are = ap (λ (x : Left). x.weights) e

    choices_are : cs ≡ (left_by (q n f M W s)).choices
    choices_are = ap (λ (x : Left). x.choices) e

    choices_long : length cs ≡ n / 2
    choices_long = ap length choices_are ∙ (left-lengths n f (entry M n) (entry W n) s).1

    weights_long : length ws ≡ all
    weights_long = ap length weights_are ∙ (left-lengths n f (entry M n) (entry W n) s).0 ∙ sym ea

    -- the choices, as resolution is lent them
    abbrev again : List ℕ
    again = take (n / 2) (cs ++ drop (n / 2) choices)

    choices_again : again ≡ cs
    choices_again = take_at cs (drop (n / 2) choices) (n / 2) choices_long

    pub choices_part : n / 2 ≡ length again
    choices_part = sym (ap length choices_again ∙ choices_long)

    pub asks_resolve : Resolving n M W s again (take n donors) (take n recipients)
    asks_resolve = record {
      readable = asked.readable;
      shuffled = asked.shuffled;
      few = omega (arith, choices_part, asked.readable.few);
      all_donors = length-take-le n donors asked.in_donors;
      all_recipients = length-take-le n recipients asked.in_recipients;
    }

    module _ (found : Resolved) (ds rs : List ℕ)
        (g : (found ≡ resolved_cycles n M W (cycles_of (up_to_three n) M W s again)) × (ds ≡ received_in n (cycles_of (up_to_three n) M W s again)) × (rs ≡ given_in n (cycles_of (up_to_three n) M W s again))) where
      cycles_are : cycles_of (up_to_three n) M W s again ≡ planned_by (q n f M W s)
      unfolding planned_by
      cycles_are = ap (cycles_of (up_to_three n) M W s) (choices_again ∙ choices_are)

      seated : Invertible n s
      seated = invertible n s asked.shuffled.long asked.each_once

      found_is : found ≡ resolved_cycles n M W (planned_by (q n f M W s))
      found_is = g.0 ∙ ap (resolved_cycles n M W) cycles_are

      number_is : found.cycles ≡ length (planned_by (q n f M W s))
      number_is = ap (λ (x : Resolved). x.cycles) found_is

      plans : {a a' b b' : ℕ} {c c' : Tallies.Tally} → a ≡ a' → b ≡ b' → c ≡ c' → plan a b c ≡ plan a' b' c'
      plans a b c = cc

      pub plan_is : (v : Counts) → tally_of v ≡ counted u → plan_in (record { weight = found.weight; cycles = found.cycles; tally = v }) ≡ plan_from (q n f M W s)
      unfolding plan_from
      plan_is v ev = plans (ap (λ (x : Resolved). x.weight) found_is) number_is (ev ∙ ap (λ (x : Left). x.tally) e)

      pub cycles_few : found.cycles ≤ n / 2
      cycles_few = omega (arith, number_is, planned_few n f (entry M n) (entry W n) s)

      -- the first records are those of the cycles
      records_are : take found.cycles found.records ≡ map (record_of n) (planned_by (q n f M W s))
      records_are =
          let cs = planned_by (q n f M W s) in
          ap (λ (x : Resolved). take x.cycles x.records) found_is
          ∙ ap (λ (k : ℕ). take k (filled (map (record_of n) cs) (no_records n))) (sym (length-map cs (record_of n)))
          ∙ take-filled (map (record_of n) cs) (no_records n)

      all_lent : {a a' b b' c c' d d' : List ℕ} {h h' : List Cycle} → a ≡ a' → b ≡ b' → c ≡ c' → d ≡ d' → h ≡ h' → lent a b c d h ≡ lent a' b' c' d' h'
      all_lent a b c d h = cc

      pub lent_is : (old : List Cycle)
          → lent (ws ++ drop all weights) (cs ++ drop (n / 2) choices) (ds ++ drop n donors) (rs ++ drop n recipients) (filled (take found.cycles found.records) old)
          ≡ filled_lent (q n f M W s) (lent weights choices donors recipients old)
      unfolding filled_lent donor_table recipient_table
      lent_is old =
          let below = planned_below f 3 n (entry M n) (entry W n) s seated in
          let apart = planned_apart f 3 n (entry M n) (entry W n) s seated in
          let ed : ds ≡ donor_table n (planned_by (q n f M W s)) = g.1 ∙ ap (received_in n) cycles_are ∙ received_all n _ below apart in
          let er : rs ≡ recipient_table n (planned_by (q n f M W s)) = g.2 ∙ ap (given_in n) cycles_are ∙ given_all n _ below apart in
          all_lent
          (past all ws weights weights_long ∙ ap (λ (l : List ℕ). filled l weights) weights_are)
          (past (n / 2) cs choices choices_long ∙ ap (λ (l : List ℕ). filled l choices) choices_are)
          (past n ds donors (ap length ed ∙ length-table n _) ∙ ap (λ (l : List ℕ). filled l donors) ed)
          (past n rs recipients (ap length er ∙ length-table n _) ∙ ap (λ (l : List ℕ). filled l recipients) er)
          (ap (λ (l : List Cycle). filled l old) records_are)
