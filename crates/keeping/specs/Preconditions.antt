-- What the checks over all pairs ask of their tables. Assumes nothing.
use Rattle.std.specs.Prelude.{ℕ, ◌≤◌, List, length}

-- none of the tables of the groups is shorter than n
pub record HoldGroups (n : ℕ) (donor_blood patient_blood donor_age patient_age : List ℕ) : Type 0 where
  pub in_donor_blood : n ≤ length donor_blood
  pub in_patient_blood : n ≤ length patient_blood
  pub in_donor_age : n ≤ length donor_age
  pub in_patient_age : n ≤ length patient_age
