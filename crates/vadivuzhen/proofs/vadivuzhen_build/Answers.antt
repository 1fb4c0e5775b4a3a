-- `vadivuzhen::vadivuzhen_build` meets its contract: it answers what `build` answered, in numbers. Assumes nothing.
use Rattle.numbers.proofs.Own.{build_numbered}
use Rattle.vadivuzhen.proofs.Exported.{kept_built}
use Rattle.vadivuzhen.proofs.vadivuzhen_build.Goals as goal

pub returns : goal.returns
returns c =
    let w = c.build in
    let k = kept_built c.into.ensures (build_numbered w.result) w.ensures.equals w.ensures.rightly in
    record { numbers = k.0; lent = k.1.0; rightly = k.1.1 }
