-- Planning with its records by value: what it gives, for any table that the records are then written to. Assumes nothing.
use Rattle.std.specs.Prelude.{ℕ, ◌≤◌, ◌≡◌, List, length, take}
use Rattle.laws.specs.Lent.{filled}
use Rattle.refusal.specs.Answer.{finished, refused, outcome}
use Rattle.refusal.specs.Number.{number_of}
use Rattle.refusal.specs.declared.Refusal.{Refusal}
use Rattle.cycle.specs.declared.Cycle.{Cycle}
use Rattle.exchange.specs.Input.{Request, input_of}
use Rattle.exchange.specs.Planning.{Lent, round_count, plan_from, filled_lent}
use Rattle.exchange.specs.Promises.{PlansRightly}
use Rattle.planner.specs.Answers.{plan_in}
use Rattle.planner.specs.declared.Work.{Work}

-- the records, written to a table that held `old`
abbrev pub written : Work → List Cycle → List Cycle
written r old = filled (take r.plan.cycles r.records) old

-- the plan made from checked input: `entry` and `exit` are the lent tables before and after, with any table of records
pub record Makes (a : Request) (entry exit : List Cycle → Lent) (r : Work) : Type 0 where
  pub made : plan_in r.plan ≡ plan_from (input_of a)
  pub few : r.plan.cycles ≤ round_count a.scope.pairs
  pub leaves : (old : List Cycle) → exit (written r old) ≡ filled_lent (input_of a) (entry old)

-- a plan, for a caller that has room for so many records
pub record PlansByValue (a : Request) (entry exit : List Cycle → Lent) (room : ℕ) (r : Work) : Type 0 where
  pub held : r.plan.cycles ≤ 100
  pub fits : r.plan.cycles ≤ room
  pub plans : (old : List Cycle) → length old ≡ room → PlansRightly a (entry old) (outcome (finished (plan_in r.plan)) (exit (written r old)))

-- or a refusal, which has no record
abbrev pub RefusesByValue : Request → (List Cycle → Lent) → (List Cycle → Lent) → ℕ → Refusal → Type 0
RefusesByValue a entry exit room why =
    (old : List Cycle) → length old ≡ room → PlansRightly a (entry old) (outcome (refused (number_of why) 0) (exit old))
