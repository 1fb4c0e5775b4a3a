-- `shifting::move_down` meets its contract. The loop's invariant: the entries passed stand at their new places. Assumes nothing.
use native.Mathlib.Omega.{arith}
use Rattle.shifting.proofs.Moves.{move_more}
use Rattle.shifting.proofs.move_down.Goals as goal

pub loop-k-preserved : goal.loop-k-preserved
loop-k-preserved g c =
    let p = c.requires in
    let l = c.loop-k in
    move_more _ _ l.k _ _ l.t (omega arith) (omega arith) l.invariant c.index-t-from.is
