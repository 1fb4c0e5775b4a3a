-- `graph::weight_row` meets its contract. Assumes nothing.
use native.Mathlib.Omega.{arith}
use Rattle.pool.specs.Tables.{pair_in}
use Rattle.donation.specs.Weight.{weight}
use Rattle.graph.specs.Graph.{with_row}
use Rattle.graph.proofs.Rows.{in_row, storing_none, storing_more, storing_all}
use Rattle.graph.proofs.weight_row.Goals as goal

pub loop-j-init : goal.loop-j-init
loop-j-init c = storing_none _ _ _

pub loop-j-preserved : goal.loop-j-preserved
unfolding weight pair_in
loop-j-preserved c =
    let l = c.loop-j in
    storing_more _ _ _ l.j l.weights _ l.invariant c.weight.ensures (in_row c.requires.row c.loop-j-test.true)

pub returns : goal.returns
unfolding with_row
returns c = storing_all _ _ _ c.loop-j.j _ _ c.loop-j.invariant (omega arith)
