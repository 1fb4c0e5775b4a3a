-- `layout::point_count` meets its contract. Assumes nothing.
use mathlib.Core.Path.{sym, ◌∙◌}
use Rattle.pool.specs.Points.{point_count}
use Rattle.layout.proofs.point_count.Goals as goal

pub returns-then-has_points : goal.returns-then-has_points
unfolding point_count
returns-then-has_points c = rw (sym c.has_points.ensures ∙ c.if-has_points.true)

pub returns-else-has_points : goal.returns-else-has_points
unfolding point_count
returns-else-has_points c = rw (sym c.has_points.ensures ∙ c.if-has_points.false)
