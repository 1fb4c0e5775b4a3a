-- `rounds::all_rounds` meets its contract. Assumes nothing.
use native.Mathlib.Omega.{arith}
use Rattle.rounds.proofs.Turns.{begins, ends, asks_choose, asks_clear, next}
use Rattle.rounds.proofs.all_rounds.Goals as goal

pub loop-k-init : goal.loop-k-init
loop-k-init c = begins _ _ _ _ _ c.requires

pub choose-at-requires : goal.choose-at-requires
choose-at-requires c = asks_choose _ _ _ _ _ c.requires _ _ _ _ c.loop-k.invariant (omega arith)

pub clear-requires : goal.clear-requires
clear-requires c =
    asks_clear _ _ _ _ _ c.requires _ _ _ _ c.loop-k.invariant (omega arith) _ _ _ c.choose-at.ensures

pub loop-k-preserved : goal.loop-k-preserved
loop-k-preserved c =
    next _ _ _ _ _ c.requires _ _ _ _ c.loop-k.invariant (omega arith) _ _ _ c.choose-at.ensures _ _
    (simp (c.choose-at.auto.choices, c.loop-k.auto.choices) at c.clear.ensures)

pub returns : goal.returns
returns c = ends _ _ _ _ _ c.requires _ _ _ _ c.loop-k.invariant (omega arith)
