-- `layout::first_pair` meets its contract. Assumes nothing.
use mathlib.Core.Path.{sym, ◌∙◌}
use native.Mathlib.Omega.{arith}
use Rattle.pool.specs.Sheet.{points_size}
use Rattle.layout.proofs.first_pair.Goals as goal

pub returns-then-has_points : goal.returns-then-has_points
unfolding points_size
returns-then-has_points c = (rw (sym c.has_points.ensures ∙ c.if-has_points.true), omega arith)

pub returns-else-has_points : goal.returns-else-has_points
unfolding points_size
returns-else-has_points c = (rw (sym c.has_points.ensures ∙ c.if-has_points.false), omega arith)
