-- `counting::table` meets its contract, by the test that the checker computes over the table of the code. Assumes nothing.
use mathlib.Core.Path.{refl}
use Rattle.counting.proofs.Rule.{six_times, whole}
use Rattle.counting.proofs.table.Goals as goal

pub returns : goal.returns
unfolding six_times
returns c = whole _ refl refl
