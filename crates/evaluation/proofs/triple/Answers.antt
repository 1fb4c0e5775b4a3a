-- `evaluation::triple` meets its contract. Assumes nothing.
use Rattle.gates.proofs.Gates.{raised_then}
use Rattle.evaluation.proofs.Subsets.{larger_is}
use Rattle.evaluation.proofs.triple.Goals as goal

pub returns : goal.returns
returns c =
    let second = c in
    let first = second in (
      larger_is _ _ _ _ _ _ first.three-first.ensures.0 second.three-second.ensures.0 c.comparison-later.ensures.0 c.pick.ensures.0,
      raised_then (raised_then first.three-first.ensures.1 second.three-second.ensures.1) (raised_then c.comparison-later.ensures.1 c.pick.ensures.1),
    )
