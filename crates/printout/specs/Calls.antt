-- What printing answers, and what it leaves in the lent buffer. Assumes nothing.
use Rattle.std.specs.Prelude.{ℕ, List, length}
use Rattle.laws.specs.Lent.{filled}
use Rattle.refusal.specs.Fault.{Fault, ◌then◌}
use Rattle.refusal.specs.Answer.{Outcome, unless}
use Rattle.pool.specs.Faults.{room_fault}
use Rattle.printout.specs.Printed.{PrintedPlan, plan_text, refusal_text}

-- "9 a lent buffer or table too short": a table of the plan that has fewer than N entries, or a buffer of `room` bytes
unfoldable pub print_fault : ℕ → PrintedPlan → Fault
print_fault room p =
    room_fault (length p.ids) p.pairs
    then room_fault (length p.donors) p.pairs
    then room_fault (length p.recipients) p.pairs
    then room_fault room (length (plan_text p))

-- the text fills the start of the lent buffer, and its length is the answer; past it nothing changes
unfoldable pub printing_plan : PrintedPlan → List ℕ → Outcome ℕ (List ℕ)
printing_plan p out = unless (print_fault (length out) p) (length (plan_text p)) (filled (plan_text p) out) out

unfoldable pub printing_refusal : ℕ → ℕ → List ℕ → Outcome ℕ (List ℕ)
printing_refusal number place out =
    unless (room_fault (length out) (length (refusal_text number place))) (length (refusal_text number place)) (filled (refusal_text number place) out) out
