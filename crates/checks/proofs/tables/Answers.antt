-- `checks::tables` meets its contract. Assumes nothing.
use native.Mathlib.Omega.{arith}
use Rattle.checks.proofs.Found.{space_short, points_short, tables_sound}
use Rattle.checks.proofs.tables.Goals as goal

pub returns-then-space-n : goal.returns-then-space-n
returns-then-space-n c l e = space_short _ _ _ l c.if-space-n.true

pub returns-then-points-point_count : goal.returns-then-points-point_count
returns-then-points-point_count c l e = points_short _ _ _ l c.if-space-n.false (omega (arith, e, c.point_count.ensures, c.if-points-point_count.true))

pub returns : goal.returns
returns c l e = tables_sound _ _ _ l c.if-space-n.false (omega (arith, e, c.point_count.ensures, c.if-points-point_count.false))
