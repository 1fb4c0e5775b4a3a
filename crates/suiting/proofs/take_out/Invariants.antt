-- `suiting::take_out` meets its contract. The loop's invariant: the numbers of the patients passed are those that are left, in a table as long as it was.
-- Assumes nothing.
use Prim.Native.Nat.{◌-◌}
use Rattle.laws.proofs.Lent.{Filling}
use Rattle.live.specs.Calls.{without_row}
use Rattle.live.specs.Suitable.{ones_in}
use Rattle.suiting.proofs.take_out.Given as goal

abbrev pub invariant-loop-j : goal.invariant-loop-j
invariant-loop-j l = Filling l.j (ones_in (l.n - 1) (without_row l.a l.n l.compatibilities)) l.fn.suitable l.suitable
