-- `writer::put_pairs` meets its contract. The invariant: the fields of i pairs are written after the head. Assumes nothing.
use Prim.Native.Nat.{ℕ, ◌≤◌}
use mathlib.Core.Path.{ap, ◌∙◌}
use native.Mathlib.Omega.{arith}
use lib.ListN.{length}
use Rattle.laws.specs.Lent.{stored}
use Rattle.laws.proofs.Lent.{pieces_none, pieces_more, pieces_all}
use Rattle.pool.specs.Sheet.{first_pair, pair_size, pair_place, pair_field}
use Rattle.pool.specs.Tables.{pair_in}
use Rattle.fields.specs.Lent.{fields_in}
use Rattle.pool.proofs.Lengths.{length-pair_field}
use Rattle.writer.proofs.put_pairs.Goals as goal

pub loop-i-init : goal.loop-i-init
loop-i-init c = pieces_none _ pair_field _ _

pub loop-i-preserved : goal.loop-i-preserved
unfolding pair_in
loop-i-preserved c =
    let given = fields_in c.args.fields in
    let l = c.loop-i in
    let fits : pair_place c.args.version l.i ≤ length c.args.out.now = omega (arith, c.requires.n_bound.1) in
    pieces_more (first_pair c.args.version) pair_field (pair_in given) c.args.out.now pair_size l.i l.out _ length-pair_field fits l.invariant
    (◌∙◌ {b = stored c.pair_place.result (pair_field (pair_in given l.i)) l.out} c.put_pair.ensures
    (ap (λ (o : ℕ). stored o (pair_field (pair_in given l.i)) l.out) c.pair_place.ensures.0))
    c.put_pair.auto.out

pub shape_of-out : goal.shape_of-out
shape_of-out c = c.loop-i.invariant.kept

pub returns : goal.returns
returns c =
    let given = fields_in c.args.fields in
    let l = c.loop-i in
    pieces_all (first_pair c.args.version) pair_field (pair_in given) c.args.out.now l.i c.args.n l.out l.invariant (omega arith)
