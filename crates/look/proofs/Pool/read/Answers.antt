-- Reading promises that an accepted sheet has at most 200 pairs.
use Rattle.look.proofs.Few.{few}
use Rattle.look.proofs.Pool.read.Goals as goal

pub returns : goal.returns
returns c = few _ _ c.read.result _ c.read.ensures.rightly c.in_ok-head.was
