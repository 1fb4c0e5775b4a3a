-- `shifting::without_entry` meets its contract. Assumes nothing.
use Rattle.shifting.proofs.Moves.{entry_out}
use Rattle.shifting.proofs.without_entry.Goals as goal

pub returns : goal.returns
returns g c = entry_out _ _ _ _ c.requires c.copy_within.ensures.after
