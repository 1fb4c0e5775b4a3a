-- `answering::print_pool` meets its contract. Assumes nothing.
use Rattle.std.proofs.Common.{◌≤◌, length, replicate, ap, ◌∙◌, arith}
use lib.Dec.{lit≤}
use lib.Seq.{length-take-le}
use Rattle.graph.specs.Graph.{Graph, graph}
use Rattle.printout.specs.Printed.{PrintedPlan, plan_text}
use Rattle.answers.specs.Answering.{putting}
use Rattle.answering.proofs.Pools.{never_unbuilt, plannable, plan_is}
use Rattle.answering.proofs.print_pool.Goals as goal

-- the tables to be built
abbrev empty : Graph
empty = graph (replicate 1600 0) (replicate 1600 0)

roomy : (1600 ≤ length empty.compatibilities) × (1600 ≤ length empty.weights)
roomy = (lit≤ tt, lit≤ tt)

pub unwrap-requires : goal.unwrap-requires
unwrap-requires c =
    let b = c.build in
    never_unbuilt _ _ _ c.requires empty roomy b.result _ (rw c.fields.ensures at b.ensures.rightly)

pub print_planned-requires : goal.print_planned-requires
print_planned-requires c =
    let b = c.build in (
      plannable _ _ _ c.requires empty roomy b.result _ (rw c.fields.ensures at b.ensures.rightly) (omega arith, omega arith),
      omega (arith, length-take-le c.args.head.pairs c.args.tables.now.ids.now c.requires.faultless.hold.fields.ids),
    )

pub returns : goal.returns
returns c =
    let b = c.build in
    c.print_planned.ensures ∙ ap (λ (x : PrintedPlan). putting (plan_text x) c.args.out.now)
    (plan_is _ _ _ c.requires empty roomy b.result _ (rw c.fields.ensures at b.ensures.rightly))
