-- `framing::pairs_in` meets its contract. Assumes nothing.
use Rattle.pool.specs.Sheet.{pairs_in}
use Rattle.framing.proofs.pairs_in.Goals as goal

pub returns : goal.returns
unfolding pairs_in
returns c = c.number.ensures
