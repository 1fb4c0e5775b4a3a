-- `suiting::count` meets its contract. The loop's invariant: the rows passed are counted in every column, in a table as long as `fill` left it.
-- Assumes nothing.
use native.Mathlib.Omega.{arith}
use Rattle.suiting.proofs.Counting.{cleared, rows_none, rows_above, rows_more, rows_all}
use Rattle.suiting.proofs.count.Goals as goal

pub loop-i-init : goal.loop-i-init
loop-i-init c = rows_none _ _ _ _ c.requires (cleared _ _ _ c.requires.numbers (c.fill.ensures.after (λ y h. h)))

pub add_row-requires : goal.add_row-requires
add_row-requires c =
    let l = c.loop-i in
    rows_above _ _ _ _ c.requires (cleared _ _ _ c.requires.numbers (c.fill.ensures.after (λ y h. h))) l.i l.counts l.invariant (omega arith)

pub loop-i-preserved : goal.loop-i-preserved
loop-i-preserved c =
    let l = c.loop-i in
    rows_more _ _ _ _ c.requires (cleared _ _ _ c.requires.numbers (c.fill.ensures.after (λ y h. h))) l.i l.counts l.invariant _ c.add_row.ensures c.add_row.auto.counts

pub returns : goal.returns
returns c =
    let l = c.loop-i in
    rows_all _ _ _ _ c.requires (cleared _ _ _ c.requires.numbers (c.fill.ensures.after (λ y h. h))) l.i l.counts l.invariant (omega arith)
