-- `columns::fill_numbers` meets its contract. Assumes nothing.
use Rattle.pool.specs.Sheet.{number_at}
use Rattle.columns.proofs.fill_numbers.Goals as goal

pub returns : goal.returns
unfolding number_at
returns c = c.fill.ensures
