-- `suiting::count` meets its contract. The loop's invariant: the rows passed are counted in every column, in a table as long as `fill` left it.
-- Assumes nothing.
use Rattle.laws.proofs.Lent.{Filling}
use Rattle.suiting.specs.Counted.{ones_above}
use Rattle.suiting.proofs.count.Given as goal

abbrev pub invariant-loop-i : goal.invariant-loop-i
invariant-loop-i l = Filling l.n (ones_above l.i l.n l.compatibilities) l.initial.counts l.counts
