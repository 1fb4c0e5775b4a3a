-- `checks::groups` meets its contract. Assumes nothing.
use borrow.Author.Tests.{lt-ltb, le-ltb}
use Rattle.refusal.specs.Fault.{refuse, ◌then◌}
use Rattle.refusal.specs.Number.{fault_at}
use Rattle.pool.specs.Faults.{group_fault}
use Rattle.checks.proofs.groups.Goals as goal

pub returns-then-donor_blood-gt3 : goal.returns-then-donor_blood-gt3
unfolding group_fault refuse ◌then◌ fault_at
returns-then-donor_blood-gt3 c o = simp (lt-ltb _ _ c.if-donor_blood-gt3.true)

pub returns-then-patient_blood-gt3 : goal.returns-then-patient_blood-gt3
unfolding group_fault refuse ◌then◌ fault_at
returns-then-patient_blood-gt3 c o = simp (le-ltb _ _ c.if-donor_blood-gt3.false, lt-ltb _ _ c.if-patient_blood-gt3.true)

pub returns-then-donor_age-gt1 : goal.returns-then-donor_age-gt1
unfolding group_fault refuse ◌then◌ fault_at
returns-then-donor_age-gt1 c o = simp (le-ltb _ _ c.if-donor_blood-gt3.false, le-ltb _ _ c.if-patient_blood-gt3.false, lt-ltb _ _ c.if-donor_age-gt1.true)

pub returns-then-patient_age-gt1 : goal.returns-then-patient_age-gt1
unfolding group_fault refuse ◌then◌ fault_at
returns-then-patient_age-gt1 c o =
    simp (
      le-ltb _ _ c.if-donor_blood-gt3.false,
      le-ltb _ _ c.if-patient_blood-gt3.false,
      le-ltb _ _ c.if-donor_age-gt1.false,
      lt-ltb _ _ c.if-patient_age-gt1.true,
    )

pub returns : goal.returns
unfolding group_fault refuse ◌then◌ fault_at
returns c o =
    simp (
      le-ltb _ _ c.if-donor_blood-gt3.false,
      le-ltb _ _ c.if-patient_blood-gt3.false,
      le-ltb _ _ c.if-donor_age-gt1.false,
      le-ltb _ _ c.if-patient_age-gt1.false,
    )
