-- `planner::plan_by_value` meets its contract. Assumes nothing.
use Rattle.refusal.proofs.Faults.{handed_on}
use Rattle.planner.proofs.Answered.{call_refused, call_asks, call_made}
use Rattle.planner.proofs.plan_by_value.Goals as goal

pub returns-in_err-judge : goal.returns-in_err-judge
returns-in_err-judge c =
    rw (handed_on _ _ c.from_residual.ensures) (call_refused _ _ _ _ _ _ _ _ _ _ c.judge.result c.judge.ensures _ c.in_err-judge.was)

pub make-requires : goal.make-requires
make-requires c = call_asks _ _ _ _ _ _ _ _ _ _ c.judge.result c.judge.ensures c.in_ok-judge.was

pub returns : goal.returns
returns c = call_made _ _ _ _ _ _ _ _ _ _ c.judge.result c.judge.ensures c.in_ok-judge.was c.make.result _ c.make.ensures
