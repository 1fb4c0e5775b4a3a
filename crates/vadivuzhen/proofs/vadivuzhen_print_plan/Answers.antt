-- `vadivuzhen::vadivuzhen_print_plan` meets its contract: it answers what `print_plan` answered, in numbers. Assumes nothing.
use Rattle.printout.specs.Promises.{PrintsPlan}
use Rattle.numbers.specs.Numbers.{print_numbers}
use Rattle.numbers.specs.Promises.{NumberedAt0}
use Rattle.numbers.proofs.Own.{print_numbered}
use Rattle.vadivuzhen.proofs.Exported.{kept}
use Rattle.vadivuzhen.proofs.vadivuzhen_print_plan.Goals as goal

pub returns : goal.returns
returns c =
    let w = c.print_plan in
    let k = kept print_numbers NumberedAt0 (PrintsPlan _ _) c.into.ensures (print_numbered w.result) w.ensures.equals w.ensures.rightly in
    record { numbers = k.0; lent = k.1.0; rightly = k.1.1 }
