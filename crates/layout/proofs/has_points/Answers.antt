-- `layout::has_points` meets its contract. Assumes nothing.
use mathlib.Core.Path.{refl}
use Rattle.pool.specs.Points.{has_points}
use Rattle.layout.proofs.has_points.Goals as goal

pub returns : goal.returns
unfolding has_points
returns c = refl
