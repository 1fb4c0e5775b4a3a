-- `withdrawing::withdraw` meets its contract: `judge` was told the shortest of the tables with an entry for each pair. Assumes nothing.
use mathlib.Core.Path.{ap, ◌∙◌}
use native.Mathlib.Omega.{arith}
use Rattle.refusal.proofs.Faults.{handed_on}
use Rattle.pool.specs.Tables.{Fields, item_in, field_room}
use Rattle.live.specs.Calls.{place_of}
use Rattle.live.specs.Lent.{live_now}
use Rattle.live.proofs.Sizes.{room_holds, lesser_pairs}
use Rattle.live.proofs.Promised.{rightly_withdrawn}
use Rattle.withdrawing.proofs.Called.{found-stored, call_refused, call_kept, call_unknown, call_one, call_withdrawn}
use Rattle.withdrawing.proofs.withdraw.Goals as goal

pub judge-requires : goal.judge-requires
judge-requires c =
    let a = c.args in
    let lent =
    live_now a.count a.points a.ids a.donor_blood a.patient_blood a.donor_age a.patient_age a.donor_antigens a.patient_antigens
    a.patient_antibodies a.compatibilities a.weights a.suitable
    in
    let shortest = lesser_pairs lent c.room.result c.min-space.result (c.room.ensures ∙ ap field_room c.read-lent.ensures) c.min-space.ensures in
    (room_holds lent c.min-space.result shortest).1

pub returns-in_err-judge : goal.returns-in_err-judge
returns-in_err-judge c =
    let a = c.args in
    let lent =
    live_now a.count a.points a.ids a.donor_blood a.patient_blood a.donor_age a.patient_age a.donor_antigens a.patient_antigens
    a.patient_antibodies a.compatibilities a.weights a.suitable
    in
    let shortest = lesser_pairs lent c.room.result c.min-space.result (c.room.ensures ∙ ap field_room c.read-lent.ensures) c.min-space.ensures in
    let found = found-stored lent c.min-space.result c.judge.result shortest c.judge.ensures in
    let e = call_refused a.id lent c.judge.result found _ c.in_err-judge.was in
    rw (handed_on _ _ c.from_residual.ensures) record { equals = e; rightly = rightly_withdrawn _ _ _ e }

pub place_of-at-requires : goal.place_of-at-requires
place_of-at-requires c =
    let a = c.args in
    let lent =
    live_now a.count a.points a.ids a.donor_blood a.patient_blood a.donor_age a.patient_age a.donor_antigens a.patient_antigens
    a.patient_antibodies a.compatibilities a.weights a.suitable
    in
    let shortest = lesser_pairs lent c.room.result c.min-space.result (c.room.ensures ∙ ap field_room c.read-lent.ensures) c.min-space.ensures in
    let found = found-stored lent c.min-space.result c.judge.result shortest c.judge.ensures in
    rw (ap (λ (f : Fields). f.ids) c.read-lent.ensures) (call_kept a.id lent c.judge.result found c.in_ok-judge.was).keep.fields.ids

pub returns-then-at-n : goal.returns-then-at-n
returns-then-at-n c =
    let a = c.args in
    let lent =
    live_now a.count a.points a.ids a.donor_blood a.patient_blood a.donor_age a.patient_age a.donor_antigens a.patient_antigens
    a.patient_antibodies a.compatibilities a.weights a.suitable
    in
    let shortest = lesser_pairs lent c.room.result c.min-space.result (c.room.ensures ∙ ap field_room c.read-lent.ensures) c.min-space.ensures in
    let found = found-stored lent c.min-space.result c.judge.result shortest c.judge.ensures in
    let e = call_unknown a.id lent c.judge.result found c.in_ok-judge.was c.place_of-at.result (c.place_of-at.ensures ∙ ap (λ (f : Fields). place_of a.count.now (item_in f.ids) a.id) c.read-lent.ensures) c.if-at-n.true in
    record { equals = e; rightly = rightly_withdrawn _ _ _ e }

pub take_out-requires : goal.take_out-requires
take_out-requires c =
    let a = c.args in
    let lent =
    live_now a.count a.points a.ids a.donor_blood a.patient_blood a.donor_age a.patient_age a.donor_antigens a.patient_antigens
    a.patient_antibodies a.compatibilities a.weights a.suitable
    in
    let shortest = lesser_pairs lent c.room.result c.min-space.result (c.room.ensures ∙ ap field_room c.read-lent.ensures) c.min-space.ensures in
    let found = found-stored lent c.min-space.result c.judge.result shortest c.judge.ensures in
    call_one a.id lent c.judge.result found c.in_ok-judge.was c.place_of-at.result (c.place_of-at.ensures ∙ ap (λ (f : Fields). place_of a.count.now (item_in f.ids) a.id) c.read-lent.ensures) c.if-at-n.false

pub overflow_sub-count : goal.overflow_sub-count
overflow_sub-count c =
    let a = c.args in
    let lent =
    live_now a.count a.points a.ids a.donor_blood a.patient_blood a.donor_age a.patient_age a.donor_antigens a.patient_antigens
    a.patient_antibodies a.compatibilities a.weights a.suitable
    in
    let shortest = lesser_pairs lent c.room.result c.min-space.result (c.room.ensures ∙ ap field_room c.read-lent.ensures) c.min-space.ensures in
    let found = found-stored lent c.min-space.result c.judge.result shortest c.judge.ensures in
    let one = call_one a.id lent c.judge.result found c.in_ok-judge.was c.place_of-at.result (c.place_of-at.ensures ∙ ap (λ (f : Fields). place_of a.count.now (item_in f.ids) a.id) c.read-lent.ensures) c.if-at-n.false in
    omega (arith, one.numbers.inside)

pub returns : goal.returns
returns c =
    let a = c.args in
    let lent =
    live_now a.count a.points a.ids a.donor_blood a.patient_blood a.donor_age a.patient_age a.donor_antigens a.patient_antigens
    a.patient_antibodies a.compatibilities a.weights a.suitable
    in
    let shortest = lesser_pairs lent c.room.result c.min-space.result (c.room.ensures ∙ ap field_room c.read-lent.ensures) c.min-space.ensures in
    let found = found-stored lent c.min-space.result c.judge.result shortest c.judge.ensures in
    let w = c.take_out.ensures in
    let e =
    call_withdrawn a.id lent c.judge.result found c.in_ok-judge.was c.place_of-at.result (c.place_of-at.ensures ∙ ap (λ (f : Fields). place_of a.count.now (item_in f.ids) a.id) c.read-lent.ensures) c.if-at-n.false _ _ _ w.fields
    w.graph w.numbers
    in
    record { equals = e; rightly = rightly_withdrawn _ _ _ e }
