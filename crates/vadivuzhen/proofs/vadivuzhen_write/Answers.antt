-- `vadivuzhen::vadivuzhen_write` meets its contract: it answers what `write` answered, in numbers. Assumes nothing.
use Rattle.pool.specs.Promises.{WritesRightly}
use Rattle.numbers.specs.Numbers.{write_numbers}
use Rattle.numbers.specs.Promises.{NumberedAt0}
use Rattle.numbers.proofs.Own.{write_numbered}
use Rattle.vadivuzhen.proofs.Exported.{kept}
use Rattle.vadivuzhen.proofs.vadivuzhen_write.Goals as goal

pub returns : goal.returns
returns c =
    let w = c.write in
    let k = kept write_numbers NumberedAt0 (WritesRightly _ _ _ _) c.into.ensures (write_numbered w.result) w.ensures.equals w.ensures.rightly in
    record { numbers = k.0; lent = k.1.0; rightly = k.1.1 }
