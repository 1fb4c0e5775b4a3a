-- `writer::put_sheet` meets its contract: the pairs go where the head ends, and the shuffle where they end. Assumes nothing.
use mathlib.Core.Path.{◌∙◌}
use native.Mathlib.Omega.{arith}
use Rattle.pool.specs.Tables.{tables}
use Rattle.fields.specs.Lent.{fields_in}
use Rattle.pool.proofs.Points.{hold_count}
use Rattle.writer.proofs.Pieces.{sheet_pieces}
use Rattle.writer.proofs.put_sheet.Goals as goal

pub put_opening-requires : goal.put_opening-requires
put_opening-requires c =
    (omega (arith, c.requires.n_bound.1), hold_count _ c.args.points.now c.requires.fact.points)

pub put_pairs-requires : goal.put_pairs-requires
put_pairs-requires c =
    record { n_bound = (c.requires.n_bound.0, omega (arith, c.requires.n_bound.1, c.put_opening.auto.out)); fact = c.requires.fact.fields }

pub put_field-requires : goal.put_field-requires
put_field-requires c =
    (omega (arith, c.requires.n_bound.1, c.pair_place.ensures, c.put_pairs.auto.out, c.put_opening.auto.out), c.requires.fact.shuffle)

pub shape_of-out : goal.shape_of-out
shape_of-out c =
    c.put_field.auto.out ∙ c.put_pairs.auto.out ∙ c.put_opening.auto.out

pub returns : goal.returns
returns c =
    let given = tables c.args.points.now (fields_in c.args.fields) c.args.shuffle.now in
    sheet_pieces c.args.version c.args.n given c.args.out.now c.put_opening.new.out c.put_pairs.new.out c.put_field.new.out
    c.requires.n_bound.1 c.put_opening.ensures c.put_pairs.ensures (rw (← c.pair_place.ensures.0) c.put_field.ensures)

pub pair_place-requires : goal.pair_place-requires
pair_place-requires c = c.requires.n_bound.0
