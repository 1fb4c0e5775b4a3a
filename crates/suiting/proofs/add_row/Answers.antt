-- `suiting::add_row` meets its contract. The loop's invariant: in the columns passed row i is counted, in a table as long as it was. Assumes nothing.
use native.Mathlib.Omega.{arith}
use Rattle.laws.proofs.Lent.{filling_none}
use Rattle.suiting.proofs.Counting.{row_few, row_more}
use Rattle.suiting.proofs.add_row.Goals as goal

pub loop-j-init : goal.loop-j-init
loop-j-init c = filling_none _ _

pub overflow_add-counts : goal.overflow_add-counts
overflow_add-counts c =
    let l = c.loop-j in
    omega (arith, row_few _ _ _ _ c.requires l.j c.loop-j-test.true l.counts l.invariant c.one_of.result c.one_of.ensures)

pub loop-j-preserved : goal.loop-j-preserved
loop-j-preserved c =
    let l = c.loop-j in
    row_more _ _ _ _ c.requires l.j c.loop-j-test.true l.counts l.invariant c.one_of.result c.one_of.ensures
