-- `vadivuzhen::vadivuzhen_join` meets its contract: it answers what `join` answered, in numbers. Assumes nothing.
use Rattle.pool.specs.Joinable.{JoinsRightly}
use Rattle.numbers.specs.Numbers.{join_numbers}
use Rattle.numbers.specs.Promises.{Numbered}
use Rattle.numbers.proofs.Own.{join_numbered}
use Rattle.vadivuzhen.proofs.Exported.{kept}
use Rattle.vadivuzhen.proofs.vadivuzhen_join.Goals as goal

pub returns : goal.returns
returns c =
    let w = c.join in
    let k = kept join_numbers Numbered (JoinsRightly _ _ _) c.into.ensures (join_numbered w.result) w.ensures.equals w.ensures.rightly in
    record { numbers = k.0; lent = k.1.0; rightly = k.1.1 }
