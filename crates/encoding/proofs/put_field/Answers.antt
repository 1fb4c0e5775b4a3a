-- `encoding::put_field` meets its contract: the numbers go where the field's start ends. Assumes nothing.
use native.Mathlib.Omega.{arith}
use Rattle.pool.specs.Tables.{item_in}
use Rattle.encoding.proofs.Fields.{field_pieces}
use Rattle.encoding.proofs.put_field.Goals as goal

pub returns : goal.returns
returns c =
    field_pieces c.args.at c.args.tag c.args.n (item_in c.args.t.now) c.args.out.now _ _ (omega (arith, c.requires.0))
    c.put_start.ensures c.put_numbers.ensures
