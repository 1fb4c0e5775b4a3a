-- "`plan` [..] prints": the text that answers a sheet. Assumes nothing.
use Rattle.std.specs.Prelude.{ℕ, List, length}
use Rattle.laws.specs.Below.{table}
use Rattle.laws.specs.Lent.{filled}
use Rattle.refusal.specs.Fault.{Fault, none, fault, ◌then◌}
use Rattle.refusal.specs.Answer.{Outcome, outcome, finished}
use Rattle.pool.specs.Pool.{Pair}
use Rattle.pool.specs.Points.{Points, points_of}
use Rattle.pool.specs.Sheet.{version_in, pairs_in, point_at, pair_at, shuffle_at}
use Rattle.pool.specs.Faults.{sheet_fault, room_fault}
use Rattle.donation.specs.Compatibility.{compatibility}
use Rattle.donation.specs.Weight.{weight}
use Rattle.exchange.specs.Input.{Input, no_floor, input}
use Rattle.exchange.specs.Resolution.{donor_table, recipient_table}
use Rattle.exchange.specs.Planning.{planned_by, plan_from}
use Rattle.answers.specs.Most.{most}
use Rattle.printout.specs.Printed.{PrintedPlan, printed_plan, plan_text, refusal_text}

-- the plan made from q, with the pairs' ids, as it is printed
unfoldable pub plan_by : List ℕ → Input → PrintedPlan
plan_by ids q =
    printed_plan q.scope.pairs (plan_from q).cycles (plan_from q).weight ids (donor_table q.scope.pairs (planned_by q))
    (recipient_table q.scope.pairs (planned_by q)) (plan_from q).tally.comparisons (plan_from q).tally.products (plan_from q).tally.rounds

-- what is planned: n pairs, by their M(i, j) and their W(i, j) by the points q, and their shuffle; "Floor 0 [..], and `plan` uses it"
abbrev pub pool_input : Points → ℕ → (ℕ → Pair) → (ℕ → ℕ) → Input
pool_input q n pair s = input n no_floor (compatibility pair) (weight q pair) (table n s)

unfoldable pub printed_plan_of : Points → ℕ → (ℕ → Pair) → (ℕ → ℕ) → PrintedPlan
printed_plan_of q n pair s = plan_by (table n (λ i. (pair i).id)) (pool_input q n pair s)

-- what the pool of a sheet is weighed by: its own points in version 2, document 01's in version 1
abbrev pub points_on : List ℕ → Points
points_on b = points_of (version_in b) (point_at b)

-- the refusal, where there is one, and else the text
unfoldable pub or_refusal : Fault → List ℕ → List ℕ
or_refusal none text = text
or_refusal (fault number place) text = refusal_text number place

-- "prints `REFUSED` with number and place, or" the plan of the pool that the sheet says: reading alone refuses, with tables for 40 pairs
unfoldable pub answer_text : List ℕ → List ℕ
answer_text b =
    or_refusal (sheet_fault b then room_fault most (pairs_in b)) (plan_text (printed_plan_of (points_on b) (pairs_in b) (pair_at b) (shuffle_at b (pairs_in b))))

-- a text fills the start of the lent buffer, and its length is the answer; past it nothing changes
abbrev pub putting : List ℕ → List ℕ → Outcome ℕ (List ℕ)
putting text out = outcome (finished (length text)) (filled text out)

-- what the call answers, and what it leaves in the lent buffer
unfoldable pub answering : List ℕ → List ℕ → Outcome ℕ (List ℕ)
answering b out = putting (answer_text b) out
