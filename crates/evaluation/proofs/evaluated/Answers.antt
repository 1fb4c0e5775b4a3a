-- `evaluation::evaluated` meets its contract. The loop's invariant is `Evaluated`. Assumes nothing.
use mathlib.Core.Path.{◌∙◌}
use native.Mathlib.Omega.{arith}
use Rattle.cursor.proofs.Following.{goes_on}
use Rattle.evaluation.proofs.AllWeights.{begins, ends, below, ranged, room, again}
use Rattle.evaluation.proofs.evaluated.Goals as goal

pub loop-i-init : goal.loop-i-init
loop-i-init c =
    begins _ _ _ _ _ _ c.requires _ c.first-p.ensures

pub weight_at-weighed-requires : goal.weight_at-weighed-requires
weight_at-weighed-requires c =
    let pre = c.requires in
    let more = c.loop-i-test.true in
    (pre.readable, pre.shuffled, ranged _ _ _ _ _ _ pre _ _ _ _ c.loop-i.invariant more, room _ _ _ _ _ _ pre _ _ _ _ c.loop-i.invariant more)

pub next-p-requires : goal.next-p-requires
next-p-requires c =
    ranged _ _ _ _ _ _ c.requires _ _ _ _ c.loop-i.invariant c.loop-i-test.true

pub loop-i-preserved : goal.loop-i-preserved
loop-i-preserved c =
    let pre = c.requires in
    let more = c.loop-i-test.true in
    again _ _ _ _ _ _ pre _ _ _ _ c.loop-i.invariant more _ c.weight_at-weighed.ensures.0 _ c.store_u32.ensures _ c.weight_at-weighed.ensures.1 _
    (c.next-p.ensures ∙ goes_on _ pre.readable.few _ (below _ _ _ _ _ _ pre _ _ _ _ c.loop-i.invariant more) _ c.loop-i.invariant.there)

pub returns : goal.returns
returns c = ends _ _ _ _ _ _ c.requires _ _ _ _ c.loop-i.invariant (omega arith)
