-- `partners::put_pairs` meets its contract. Assumes nothing.
use native.Mathlib.Omega.{arith}
use Rattle.partners.specs.Pairs.{pair_lines}
use Rattle.text.proofs.Lines.{texts_none, next_fits, put_next, texts_all}
use Rattle.partners.proofs.put_pairs.Goals as goal

pub loop-i-init : goal.loop-i-init
loop-i-init c = texts_none _ _ _

pub put_pair-end-requires-clause-i_in_bounds : goal.put_pair-end-requires-clause-i_in_bounds
unfolding pair_lines
put_pair-end-requires-clause-i_in_bounds c =
    let l = c.loop-i in
    next_fits _ c.args.at c.args.out.now l.i c.args.n c.loop-i-test.true c.requires.recipients_in_bounds l.auto.out l.invariant

pub loop-i-preserved : goal.loop-i-preserved
unfolding pair_lines
loop-i-preserved c =
    put_next _ c.args.at c.args.out.now c.loop-i.i c.args.n c.loop-i-test.true c.requires.recipients_in_bounds c.loop-i.invariant c.put_pair-end.ensures

pub returns : goal.returns
unfolding pair_lines
returns c = texts_all _ c.args.at c.args.out.now c.loop-i.i c.args.n (omega arith) c.loop-i.invariant
