-- `resolution::none` meets its contract. Assumes nothing.
use Rattle.resolution.proofs.AllResolved.{empty_yet}
use Rattle.resolution.proofs.none.Goals as goal

pub returns : goal.returns
returns c = empty_yet _ _ c.record_of.ensures
