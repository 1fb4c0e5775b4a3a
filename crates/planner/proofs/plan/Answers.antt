-- `planner::plan` meets its contract. Assumes nothing.
use mathlib.Core.Path.{refl}
use Rattle.refusal.proofs.Faults.{handed_on}
use Rattle.planner.specs.Answers.{answer_of}
use Rattle.planner.proofs.plan.Goals as goal

pub returns-in_err-work : goal.returns-in_err-work
unfolding answer_of
returns-in_err-work c = rw (handed_on _ _ c.from_residual.ensures) (c.in_err-work.ensures _ refl)

pub returns : goal.returns
unfolding answer_of
returns c = rw c.write.ensures (c.in_ok-work.ensures.plans _ refl)
