-- `vadivuzhen::vadivuzhen_plan` meets its contract: it answers what `plan` answered, in numbers. Assumes nothing.
use Rattle.numbers.proofs.Own.{plan_numbered}
use Rattle.vadivuzhen.proofs.Exported.{kept_plan}
use Rattle.vadivuzhen.proofs.vadivuzhen_plan.Goals as goal

pub returns : goal.returns
returns c =
    let w = c.plan in
    let k = kept_plan c.into.ensures (plan_numbered w.result) w.ensures in
    record { numbers = k.0; lent = k.1.0; rightly = k.1.1 }
