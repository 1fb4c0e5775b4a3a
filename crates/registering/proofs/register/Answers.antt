-- `registering::register` meets its contract: `judge` was told the shortest of the tables with an entry for each pair. Assumes nothing.
use mathlib.Core.Path.{ap, ◌∙◌}
use native.Mathlib.Omega.{arith}
use Rattle.refusal.proofs.Faults.{handed_on}
use Rattle.pool.specs.Tables.{fields, field_room}
use Rattle.graph.specs.Graph.{graph}
use Rattle.weighing.proofs.Faults.{held-fields}
use Rattle.live.specs.Live.{live}
use Rattle.live.proofs.Sizes.{room_holds, lesser_pairs}
use Rattle.live.proofs.Promised.{rightly_registered}
use Rattle.registering.proofs.Answered.{call_refused, call_registrable, call_registered}
use Rattle.registering.proofs.register.Goals as goal

pub judge-requires : goal.judge-requires
judge-requires c =
    let a = c.args in
    let f =
    fields a.ids.now a.donor_blood.now a.patient_blood.now a.donor_age.now a.patient_age.now a.donor_antigens.now a.patient_antigens.now
    a.patient_antibodies.now
    in
    let pool = live a.count.now a.points.now f (graph a.compatibilities.now a.weights.now) a.suitable.now in
    let shortest = lesser_pairs pool c.room.result c.min-space.result (c.room.ensures ∙ ap field_room c.read-lent.ensures) c.min-space.ensures in
    let h = room_holds pool c.min-space.result shortest in
    record { tables_have_room = rw c.read-lent.ensures (held-fields _ f h.0); space_in_bounds = h.1 }

pub add-requires : goal.add-requires
add-requires c =
    let a = c.args in
    let f =
    fields a.ids.now a.donor_blood.now a.patient_blood.now a.donor_age.now a.patient_age.now a.donor_antigens.now a.patient_antigens.now
    a.patient_antibodies.now
    in
    let pool = live a.count.now a.points.now f (graph a.compatibilities.now a.weights.now) a.suitable.now in
    let shortest = lesser_pairs pool c.room.result c.min-space.result (c.room.ensures ∙ ap field_room c.read-lent.ensures) c.min-space.ensures in
    call_registrable _ pool c.min-space.result shortest c.judge.result (rw c.read-lent.ensures at c.judge.ensures) c.in_ok-judge.was

pub overflow_add-count : goal.overflow_add-count
overflow_add-count c =
    let a = c.args in
    let f =
    fields a.ids.now a.donor_blood.now a.patient_blood.now a.donor_age.now a.patient_age.now a.donor_antigens.now a.patient_antigens.now
    a.patient_antibodies.now
    in
    let pool = live a.count.now a.points.now f (graph a.compatibilities.now a.weights.now) a.suitable.now in
    let shortest = lesser_pairs pool c.room.result c.min-space.result (c.room.ensures ∙ ap field_room c.read-lent.ensures) c.min-space.ensures in
    let registrable = call_registrable _ pool c.min-space.result shortest c.judge.result (rw c.read-lent.ensures at c.judge.ensures) c.in_ok-judge.was in
    omega (arith, registrable.room)

pub returns-in_err-judge : goal.returns-in_err-judge
returns-in_err-judge c =
    let a = c.args in
    let f =
    fields a.ids.now a.donor_blood.now a.patient_blood.now a.donor_age.now a.patient_age.now a.donor_antigens.now a.patient_antigens.now
    a.patient_antibodies.now
    in
    let pool = live a.count.now a.points.now f (graph a.compatibilities.now a.weights.now) a.suitable.now in
    let shortest = lesser_pairs pool c.room.result c.min-space.result (c.room.ensures ∙ ap field_room c.read-lent.ensures) c.min-space.ensures in
    let e = call_refused _ pool c.min-space.result shortest c.judge.result (rw c.read-lent.ensures at c.judge.ensures) _ c.in_err-judge.was in
    rw (handed_on _ _ c.from_residual.ensures) record { equals = e; rightly = rightly_registered _ _ _ e }

pub returns : goal.returns
returns c =
    let a = c.args in
    let f =
    fields a.ids.now a.donor_blood.now a.patient_blood.now a.donor_age.now a.patient_age.now a.donor_antigens.now a.patient_antigens.now
    a.patient_antibodies.now
    in
    let pool = live a.count.now a.points.now f (graph a.compatibilities.now a.weights.now) a.suitable.now in
    let shortest = lesser_pairs pool c.room.result c.min-space.result (c.room.ensures ∙ ap field_room c.read-lent.ensures) c.min-space.ensures in
    let e = call_registered _ pool c.min-space.result shortest c.judge.result (rw c.read-lent.ensures at c.judge.ensures) c.in_ok-judge.was _ c.add.ensures in
    record { equals = e; rightly = rightly_registered _ _ _ e }
