-- `writer::put_opening` meets its contract. Assumes nothing.
use mathlib.Core.Path.{◌≡◌, sym, ◌∙◌}
use native.Mathlib.Omega.{arith}
use Rattle.pool.specs.Tables.{item_in}
use Rattle.pool.proofs.Points.{has_second, second_count, second_size}
use Rattle.writer.proofs.Pieces.{opening_first, opening_second}
use Rattle.writer.proofs.put_opening.Goals as goal

pub put_field-requires : goal.put_field-requires
put_field-requires c =
    let second : c.args.version ≡ 2 =
    has_second _ (sym c.has_points.ensures ∙ c.if-has_points.true) in
    omega (arith, c.requires, c.put_head.auto.out, second_size _ second, second_count _ second)

pub returns-then-has_points : goal.returns-then-has_points
returns-then-has_points c =
    opening_second c.args.version c.args.n (item_in c.args.points.now) c.args.out.now _ _
    (sym c.has_points.ensures ∙ c.if-has_points.true)
    (omega (arith, c.requires.0)) c.put_head.ensures c.put_field.ensures

pub returns-else-has_points : goal.returns-else-has_points
returns-else-has_points c =
    opening_first c.args.version c.args.n _ c.args.out.now _ (sym c.has_points.ensures ∙ c.if-has_points.false) c.put_head.ensures
