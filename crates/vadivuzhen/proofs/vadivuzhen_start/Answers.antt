-- `vadivuzhen::vadivuzhen_start` meets its contract: it answers what `start` answered, in numbers. Assumes nothing.
use Rattle.numbers.proofs.Own.{live_numbered}
use Rattle.vadivuzhen.proofs.Exported.{kept_started}
use Rattle.vadivuzhen.proofs.vadivuzhen_start.Goals as goal

pub returns : goal.returns
returns c =
    let w = c.start in
    let k = kept_started c.into.ensures (live_numbered w.result) w.ensures.equals w.ensures.rightly in
    record { numbers = k.0; lent = k.1.0; rightly = k.1.1 }
