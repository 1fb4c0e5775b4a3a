-- The answer of planning in document 01's numbers. Assumes nothing.
use Rattle.std.specs.Prelude.{Result, Ok, Err}
use Rattle.refusal.specs.Answer.{Answer, finished, refused}
use Rattle.refusal.specs.Number.{number_of}
use Rattle.refusal.specs.declared.Refusal.{Refusal}
use Rattle.exchange.specs.Planning.{Plan, plan}
use Rattle.gates.specs.Counts.{tally_of}
use Rattle.planner.specs.declared.Planned.{Planned}

-- the result, as the definitions have it
abbrev pub plan_in : Planned → Plan
plan_in p = plan p.weight p.cycles (tally_of p.tally)

-- the answer, "planning gives the number"; the place is 0
unfoldable pub answer_of : Result Planned Refusal → Answer Plan
answer_of (Ok p) = finished (plan_in p)
answer_of (Err why) = refused (number_of why) 0
