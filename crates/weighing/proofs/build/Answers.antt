-- `weighing::build` meets its contract. Assumes nothing.
use Rattle.fields.specs.Lent.{fields_in}
use Rattle.points.specs.Named.{named}
use Rattle.graph.specs.Graph.{graph}
use Rattle.refusal.proofs.Faults.{handed_on}
use Rattle.weighing.proofs.Faults.{passed_points}
use Rattle.weighing.proofs.Promised.{rightly, call_refused, call_buildable, call_built}
use Rattle.weighing.proofs.build.Goals as goal

pub points_of-requires : goal.points_of-requires
points_of-requires c =
    let a = c.args in
    let f = fields_in a.fields in
    passed_points a.version a.n a.points.now f _ _ c.judge.result c.judge.ensures c.in_ok-judge.was

pub fill-requires : goal.fill-requires
fill-requires c =
    let a = c.args in
    let f = fields_in a.fields in
    let g = graph a.compatibilities.now a.weights.now in
    call_buildable a.version a.n a.points.now f g c.judge.result c.judge.ensures c.in_ok-judge.was (named c.points_of.result) c.points_of.ensures

pub returns-in_err-judge : goal.returns-in_err-judge
returns-in_err-judge c =
    let a = c.args in
    let f = fields_in a.fields in
    let g = graph a.compatibilities.now a.weights.now in
    let e = call_refused a.version a.n a.points.now f g c.judge.result c.judge.ensures _ c.in_err-judge.was in
    rw (handed_on _ _ c.from_residual.ensures) (record { equals = e; rightly = rightly a.version a.n a.points.now f g _ _ e })

pub returns : goal.returns
returns c =
    let a = c.args in
    let f = fields_in a.fields in
    let g = graph a.compatibilities.now a.weights.now in
    let e =
    call_built a.version a.n a.points.now f g c.judge.result c.judge.ensures c.in_ok-judge.was (named c.points_of.result) c.points_of.ensures _
    c.fill.ensures
    in
    record { equals = e; rightly = rightly a.version a.n a.points.now f g _ _ e }
