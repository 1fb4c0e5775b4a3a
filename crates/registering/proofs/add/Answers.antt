-- `registering::add` meets its contract. Assumes nothing.
use Rattle.pool.specs.Points.{has_points, points_of}
use Rattle.fields.specs.Lent.{fields_lent}
use Rattle.points.specs.Named.{named}
use Rattle.graph.specs.Graph.{graph}
use Rattle.live.specs.Live.{live}
use Rattle.live.specs.Answers.{named as pair_named}
use Rattle.registering.proofs.Answered.{put_stored, add_buildable, add_countable, is_added}
use Rattle.registering.proofs.add.Goals as goal

pub own-requires : goal.own-requires
own-requires c = c.requires.kept.keep.points

pub fill-requires : goal.fill-requires
unfolding points_of has_points
fill-requires c =
    let a = c.args in
    let pool = live a.n a.points.now (fields_lent a.fields) (graph a.compatibilities.now a.weights.now) a.suitable.now in
    add_buildable _ pool _ (put_stored a.n (pair_named a.pair) (fields_lent a.fields) c.requires.more.fields) (named c.own.result) c.own.ensures
    c.requires

pub count-requires : goal.count-requires
count-requires c =
    let a = c.args in
    let pool = live a.n a.points.now (fields_lent a.fields) (graph a.compatibilities.now a.weights.now) a.suitable.now in
    add_countable _ pool c.requires _ c.fill.auto.compatibilities

pub returns : goal.returns
unfolding points_of has_points
returns c =
    let a = c.args in
    let pool = live a.n a.points.now (fields_lent a.fields) (graph a.compatibilities.now a.weights.now) a.suitable.now in
    is_added _ pool _ (put_stored a.n (pair_named a.pair) (fields_lent a.fields) c.requires.more.fields) (named c.own.result) c.own.ensures _
    c.fill.ensures _ c.count.ensures
