-- A pool: its version, its own points, its pairs in order, and the shuffle. Assumes nothing.
use Rattle.std.specs.Prelude.{ℕ, List}

-- a patient, and a donor who does not suit that patient.
-- Blood: 0 O, 1 A, 2 B, 3 AB. Age group: 0 young, 1 senior. Antigens and antibodies: one bit per entry of the laboratory's list
pub record Pair : Type 0 where
  pub id : ℕ
  pub donor_blood : ℕ
  pub patient_blood : ℕ
  pub donor_age : ℕ
  pub patient_age : ℕ
  pub donor_antigens : ℕ
  pub patient_antigens : ℕ
  pub patient_antibodies : ℕ

-- "A version 1 pool has no points": an empty list; in version 2 they are six
pub record Pool : Type 0 where
  pub version : ℕ
  pub points : List ℕ
  pub pairs : List Pair
  pub shuffle : List ℕ
