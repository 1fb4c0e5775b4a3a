-- `shifting::move_row` meets its contract. Assumes nothing.
use Rattle.shifting.proofs.Moves.{row_out}
use Rattle.shifting.proofs.move_row.Goals as goal

pub returns : goal.returns
returns g c = row_out _ _ _ _ _ _ _ c.requires.later c.requires.a_le_m c.move_down.ensures c.move_down-2.ensures
