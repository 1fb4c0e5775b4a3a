-- `shifting::move_down` meets its contract. The loop's invariant: the entries passed stand at their new places. Assumes nothing.
use mathlib.Core.Path.{◌≡◌}
use lib.ListN.{drop}
use lib.Seq.{paste}
use Rattle.shifting.proofs.move_down.Given as goal

abbrev pub invariant-loop-k : goal.invariant-loop-k
invariant-loop-k g l = l.t ≡ paste l.fn.t l.to (drop l.from l.fn.t) l.k
