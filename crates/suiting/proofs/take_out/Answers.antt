-- `suiting::take_out` meets its contract. The loop's invariant: the numbers of the patients passed are those that are left, in a table as long as it was.
-- Assumes nothing.
use native.Mathlib.Omega.{arith}
use Rattle.laws.proofs.Lent.{filling_none, filling_all}
use Rattle.live.specs.Suitable.{with_numbers}
use Rattle.suiting.proofs.Counting.{number_least, number_more}
use Rattle.suiting.proofs.take_out.Goals as goal

pub loop-j-init : goal.loop-j-init
loop-j-init c = filling_none _ _

pub overflow_sub-suitable : goal.overflow_sub-suitable
overflow_sub-suitable c =
    let l = c.loop-j in
    number_least _ _ _ _ c.requires l.j c.loop-j-test.true l.suitable l.invariant _ c.place_before-before.ensures _ c.one_of.ensures

pub loop-j-preserved : goal.loop-j-preserved
loop-j-preserved c =
    let l = c.loop-j in
    number_more _ _ _ _ c.requires l.j c.loop-j-test.true l.suitable l.invariant _ c.place_before-before.ensures _ c.one_of.ensures

pub returns : goal.returns
unfolding with_numbers
returns c =
    let l = c.loop-j in
    filling_all l.j _ _ _ _ l.invariant (omega arith)
