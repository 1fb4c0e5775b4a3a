-- `graph::fill` meets its contract. Assumes nothing.
use mathlib.Core.Path.{ap₂}
use native.Mathlib.Omega.{arith}
use Rattle.pool.specs.Tables.{pair_in}
use Rattle.donation.specs.Compatibility.{compatibility}
use Rattle.donation.specs.Weight.{weight}
use Rattle.graph.specs.Graph.{graph, filled_graph, with_row}
use Rattle.graph.proofs.Rows.{rows_none, rows_more, rows_all}
use Rattle.graph.proofs.fill.Goals as goal

pub loop-i-init : goal.loop-i-init
loop-i-init c = record { compatible = rows_none _ _ _; weighed = rows_none _ _ _ }

pub loop-i-preserved : goal.loop-i-preserved
unfolding with_row compatibility weight pair_in
loop-i-preserved c =
    let l = c.loop-i in
    let v = l.invariant in
    let b = c.requires in
    record {
      compatible =
          rows_more _ _ _ l.i l.compatibilities _ c.loop-i-test.true b.in_compatibilities v.compatible c.compatibility_row.ensures;
      weighed = rows_more _ _ _ l.i l.weights _ c.loop-i-test.true b.in_weights v.weighed c.weight_row.ensures;
    }

pub returns : goal.returns
unfolding filled_graph
returns c =
    let l = c.loop-i in
    let v = l.invariant in
    ap₂ graph (rows_all _ _ _ l.i _ v.compatible (omega arith)) (rows_all _ _ _ l.i _ v.weighed (omega arith))
