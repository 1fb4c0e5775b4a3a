-- `registering::pairs` meets its contract. Assumes nothing.
use Rattle.pool.specs.Tables.{pair_in}
use Rattle.refusal.proofs.Faults.{handed_on}
use Rattle.registering.proofs.Judged.{stored_groups, new_groups, stored_ids, new_again, all_unlike}
use Rattle.registering.proofs.pairs.Goals as goal

pub groups-requires : goal.groups-requires
groups-requires c =
    let p = c.requires in
    record { in_donor_blood = p.in_donor_blood; in_patient_blood = p.in_patient_blood; in_donor_age = p.in_donor_age; in_patient_age = p.in_patient_age }

pub returns-in_err-groups : goal.returns-in_err-groups
unfolding pair_in
returns-in_err-groups c =
    rw (handed_on _ _ c.from_residual.ensures) (stored_groups _ _ _ c.groups.result c.groups.ensures _ c.in_err-groups.was)

pub returns-in_err-groups-2 : goal.returns-in_err-groups-2
unfolding pair_in
returns-in_err-groups-2 c =
    rw (handed_on _ _ c.from_residual-in_err-groups-2.ensures)
    (new_groups _ _ _ c.groups.result c.groups.ensures c.in_ok-groups.was c.groups-2.result (c.groups-2.ensures 0) _ c.in_err-groups-2.was)

pub returns-in_err-ids : goal.returns-in_err-ids
unfolding pair_in
returns-in_err-ids c =
    rw (handed_on _ _ c.from_residual-in_err-ids.ensures)
    (stored_ids _ _ _ c.groups.result c.groups.ensures c.in_ok-groups.was c.groups-2.result (c.groups-2.ensures 0) c.in_ok-groups-2.was
    c.ids.result c.ids.ensures _ c.in_err-ids.was)

pub returns-then-among : goal.returns-then-among
unfolding pair_in
returns-then-among c =
    new_again _ _ _ c.groups.result c.groups.ensures c.in_ok-groups.was c.groups-2.result (c.groups-2.ensures 0) c.in_ok-groups-2.was
    c.ids.result c.ids.ensures c.in_ok-ids.was c.among.result c.among.ensures c.if-among.true

pub returns : goal.returns
unfolding pair_in
returns c =
    all_unlike _ _ _ c.groups.result c.groups.ensures c.in_ok-groups.was c.groups-2.result (c.groups-2.ensures 0) c.in_ok-groups-2.was
    c.ids.result c.ids.ensures c.in_ok-ids.was c.among.result c.among.ensures c.if-among.false
