-- `shifting::without_row` meets its contract. The loop's invariant: the rows passed stand at their new places, without column a. Assumes nothing.
use mathlib.Core.Path.{◌≡◌}
use Rattle.laws.specs.Lent.{filled}
use Rattle.shifting.proofs.Moves.{moved}
use Rattle.shifting.proofs.without_row.Given as goal

abbrev pub invariant-loop-i : goal.invariant-loop-i
invariant-loop-i g l = l.t ≡ filled (moved l.fn.a l.fn.n l.fn.t l.i) l.fn.t
