-- `suiting::add_row` meets its contract. The loop's invariant: in the columns passed row i is counted, in a table as long as it was. Assumes nothing.
use Prim.Native.Nat.{◌+◌}
use Rattle.laws.proofs.Lent.{Filling}
use Rattle.suiting.specs.Counted.{ones_above}
use Rattle.suiting.proofs.add_row.Given as goal

abbrev pub invariant-loop-j : goal.invariant-loop-j
invariant-loop-j l = Filling l.j (ones_above (l.i + 1) l.n l.compatibilities) l.fn.counts l.counts
