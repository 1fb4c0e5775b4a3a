-- `clearing::all_cleared` meets its contract. The loop's invariant is `Cleared`. Assumes nothing.
use mathlib.Core.Path.{◌∙◌}
use native.Mathlib.Omega.{arith}
use Rattle.cursor.proofs.Following.{goes_on}
use Rattle.clearing.proofs.AllCleared.{begins, ends, below, ranged, room, again}
use Rattle.clearing.proofs.all_cleared.Goals as goal

pub loop-i-init : goal.loop-i-init
loop-i-init c = begins _ _ _ _ c.requires _ c.first-p.ensures

pub weight_after-after-requires : goal.weight_after-after-requires
weight_after-after-requires c =
    let more = c.loop-i-test.true in
    (ranged _ _ _ _ c.requires _ _ _ _ c.loop-i.invariant more, room _ _ _ _ c.requires _ _ _ _ c.loop-i.invariant more)

pub next-p-requires : goal.next-p-requires
next-p-requires c =
    ranged _ _ _ _ c.requires _ _ _ _ c.loop-i.invariant c.loop-i-test.true

pub loop-i-preserved : goal.loop-i-preserved
loop-i-preserved c =
    let pre = c.requires in
    let more = c.loop-i-test.true in
    again _ _ _ _ pre _ _ _ _ c.loop-i.invariant more _ (c.load-before.ensures 0) _ c.weight_after-after.ensures.0 _ c.store_u32.ensures _
    c.weight_after-after.ensures.1 _ (c.next-p.ensures ∙ goes_on _ pre.few _ (below _ _ _ _ pre _ _ _ _ c.loop-i.invariant more) _ c.loop-i.invariant.there)

pub returns : goal.returns
returns c = ends _ _ _ _ c.requires _ _ _ _ c.loop-i.invariant (omega arith)
