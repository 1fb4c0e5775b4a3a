-- `appending::put_points` meets its contract: the bytes of the points' field are what writing the points gives. Assumes nothing.
use mathlib.Core.Path.{ap, ◌∙◌}
use mathlib.Core.List.{List}
use Prim.Native.Nat.{ℕ}
use Rattle.laws.specs.Lent.{stored}
use Rattle.pool.specs.Sheet.{head_size}
use Rattle.appending.proofs.Pieces.{points_there}
use Rattle.appending.proofs.put_points.Goals as goal

pub returns : goal.returns
returns c =
    c.put_bytes.ensures
    ∙ ap (λ (l : List ℕ). stored head_size l c.args.out.now)
    (points_there c.args.sheet.now c.args.version _ (λ j. (c.type_inv.sheet j).fits) c.requires.0 c.requires.1 c.first_pair-to.ensures.0)
