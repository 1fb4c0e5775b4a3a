-- `keeping::judge` meets its contract: what `points::judge` found is of the points that are lent. Assumes nothing.
use mathlib.Core.Path.{ap, ◌∙◌}
use native.Mathlib.Nat.{le_trans}
use Rattle.refusal.specs.Number.{fault_at}
use Rattle.refusal.proofs.Faults.{sound_none, sound_then, faulty_then, handed_on}
use Rattle.pool.specs.Points.{has_points, points_of}
use Rattle.pool.specs.Faults.{points_fault}
use Rattle.live.specs.Faults.{stored_fault}
use Rattle.live.proofs.Sizes.{sizes_passed}
use Rattle.keeping.proofs.judge.Goals as goal

pub returns-in_err-sizes : goal.returns-in_err-sizes
unfolding fault_at stored_fault
returns-in_err-sizes c =
    rw (handed_on _ _ c.from_residual.ensures) (faulty_then 0 c.sizes.result _ _ c.sizes.ensures _ c.in_err-sizes.was)

pub own-requires : goal.own-requires
own-requires c = (sizes_passed _ _ _ _ _ (sound_none 0 c.sizes.result c.sizes.ensures c.in_ok-sizes.was)).4

pub judge-requires-2 : goal.judge-requires-2
judge-requires-2 c =
    let f = sizes_passed _ _ _ _ _ (sound_none 0 c.sizes.result c.sizes.ensures c.in_ok-sizes.was) in
    record { few = f.0; rows = f.2; numbers = le_trans f.1 c.requires }

pub returns-in_err-judge : goal.returns-in_err-judge
unfolding fault_at stored_fault points_of has_points
returns-in_err-judge c =
    rw (handed_on _ _ c.from_residual-in_err-judge.ensures)
    (sound_then 0 c.sizes.result _ _ c.sizes.ensures c.in_ok-sizes.was
    (faulty_then 0 c.judge.result _ _ (c.judge.ensures 0 ∙ ap (points_fault 0) c.own.ensures) _ c.in_err-judge.was))

pub returns : goal.returns
unfolding stored_fault points_of has_points
returns c =
    sound_then 0 c.sizes.result _ _ c.sizes.ensures c.in_ok-sizes.was
    (sound_then 0 c.judge.result _ _ (c.judge.ensures 0 ∙ ap (points_fault 0) c.own.ensures) c.in_ok-judge.was c.judge-2.ensures)
