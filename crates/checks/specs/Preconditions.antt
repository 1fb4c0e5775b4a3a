-- What the checks ask of their arguments. Assumes nothing.
use Rattle.std.specs.Prelude.{ℕ, ◌≤◌, ◌≡◌, List, length, get_or}
use Rattle.pool.specs.Pool.{Pair}
use Rattle.pool.specs.Tables.{Fields}

-- pairs whose ids up to the i-th stand in a table, and whose i-th has these groups
pub record PairAgrees (pair : ℕ → Pair) (i : ℕ) (ids : List ℕ) (donor_blood patient_blood donor_age patient_age : ℕ) : Type 0 where
  pub id : (j : ℕ) → j ≤ i → (pair j).id ≡ get_or ids j 0
  pub has_donor_blood : (pair i).donor_blood ≡ donor_blood
  pub has_patient_blood : (pair i).patient_blood ≡ patient_blood
  pub has_donor_age : (pair i).donor_age ≡ donor_age
  pub has_patient_age : (pair i).patient_age ≡ patient_age

-- none of the tables that are looked at is shorter than `space`
pub record TablesHaveRoom (space : ℕ) (f : Fields) : Type 0 where
  pub in_ids : space ≤ length f.ids
  pub in_donor_blood : space ≤ length f.donor_blood
  pub in_patient_blood : space ≤ length f.patient_blood
  pub in_donor_age : space ≤ length f.donor_age
  pub in_patient_age : space ≤ length f.patient_age
