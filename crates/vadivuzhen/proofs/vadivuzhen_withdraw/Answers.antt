-- `vadivuzhen::vadivuzhen_withdraw` meets its contract: it answers what `withdraw` answered, in numbers. Assumes nothing.
use Rattle.numbers.proofs.Own.{live_numbered}
use Rattle.vadivuzhen.proofs.Exported.{kept_withdrawn}
use Rattle.vadivuzhen.proofs.vadivuzhen_withdraw.Goals as goal

pub returns : goal.returns
returns c =
    let w = c.withdraw in
    let k = kept_withdrawn c.into.ensures (live_numbered w.result) w.ensures.equals w.ensures.rightly in
    record { numbers = k.0; lent = k.1.0; rightly = k.1.1 }
