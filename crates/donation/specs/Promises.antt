-- What M and a mismatch mean, said a second time, and the documents' examples of W, as statements: the proofs are in `proofs/Blood`,
-- `proofs/Compatible`, `proofs/Mismatched` and `proofs/Points`. Assumes nothing.
use Rattle.std.specs.Prelude.{ℕ, ◌+◌, ◌≤◌, ◌<◌, ◌≡◌, Bool, true, false, ◌&&◌, ◌||◌, cond, ◌↔◌, List, [], ◌∷◌, map, eqb}
use Rattle.pool.specs.Pool.{Pair}
use Rattle.pool.specs.Points.{Points, document_points, points_of}
use Rattle.pool.specs.Tables.{item_in}
use Rattle.donation.specs.Compatibility.{suits, entries, has, compatibility}
use Rattle.donation.specs.Weight.{mismatches, weight}

-- ## Blood, in words

abbrev pub O : ℕ
O = 0

abbrev pub A : ℕ
A = 1

abbrev pub B : ℕ
B = 2

abbrev pub AB : ℕ
AB = 3

-- "O suits all; A suits A and AB; B suits B and AB; AB suits AB"
unfoldable pub suits_in_words : ℕ → ℕ → Bool
suits_in_words donor patient =
    eqb donor O
    || eqb donor A && (eqb patient A || eqb patient AB)
    || eqb donor B && (eqb patient B || eqb patient AB)
    || eqb donor AB && eqb patient AB

-- the table of four by four is that rule
abbrev pub TableIsRule : Type 0
TableIsRule = (donor patient : ℕ) → donor ≤ AB → patient ≤ AB → suits donor patient ≡ suits_in_words donor patient

-- ## M

-- M(i, j) is 1 for two different pairs whose blood suits and where no entry of the laboratory's list is an antigen of donor i and an antibody of
-- patient j, and for no others
pub record Compatible (pair : ℕ → Pair) (i j : ℕ) : Type 0 where
  pub different : i ≡ j → ⊥
  pub blood : suits (pair i).donor_blood (pair j).patient_blood ≡ true
  pub apart : (k : ℕ) → k < entries → has (pair i).donor_antigens k ≡ true → has (pair j).patient_antibodies k ≡ true → ⊥

abbrev pub OneWhereCompatible : Type 0
OneWhereCompatible = (pair : ℕ → Pair) (i j : ℕ) → (compatibility pair i j ≡ 1) ↔ Compatible pair i j

-- ## Mismatches: document 02, W-204

-- every antigen of the donor's is the patient's
abbrev pub Covered : ℕ → ℕ → Type 0
Covered donor patient = (k : ℕ) → k < entries → has donor k ≡ true → has patient k ≡ true

-- of the donor's antigens two patients have the same, whatever else each has
abbrev pub SameOf : ℕ → ℕ → ℕ → Type 0
SameOf donor p q = (k : ℕ) → k < entries → has donor k ≡ true → has p k ≡ has q k

-- "A patient antigen missing in the donor no longer counts"
abbrev pub OneSided : Type 0
OneSided = (donor p q : ℕ) → SameOf donor p q → mismatches donor p ≡ mismatches donor q

-- "a mismatch is a donor antigen that the patient does not have", with no sum over the list: there is none just where the patient has all of the donor's,
-- and where p lacks a donor antigen k that q has, and of the donor's others they have the same, p has one mismatch more than q
pub record CountsMismatches (count : ℕ → ℕ → ℕ) : Type 0 where
  pub none : (donor patient : ℕ) → (count donor patient ≡ 0) ↔ Covered donor patient
  pub each : (donor p q k : ℕ) → k < entries → has donor k ≡ true → has p k ≡ false → has q k ≡ true
      → ((j : ℕ) → j < entries → (j ≡ k → ⊥) → has donor j ≡ true → has p j ≡ has q j) → count donor p ≡ count donor q + 1

-- `mismatches` is such a count, and there is no other
abbrev pub MismatchesCounted : Type 0
MismatchesCounted = CountsMismatches mismatches

abbrev pub NoOtherCount : Type 0
NoOtherCount = (count : ℕ → ℕ → ℕ) → CountsMismatches count → (donor patient : ℕ) → count donor patient ≡ mismatches donor patient

-- an antigen of the donor's alone, one of the patient's alone, three of the donor's of which the patient has one; the list's last entry; all of it
abbrev pub MismatchesComeOut : Type 0
MismatchesComeOut =
    mismatches 1 0 ∷ mismatches 0 1 ∷ mismatches 7 2 ∷ mismatches 9223372036854775808 0 ∷ mismatches 18446744073709551615 0 ∷ []
    ≡ 1 ∷ 0 ∷ 2 ∷ 1 ∷ 64 ∷ []

-- ## W: the documents' edge examples

-- a donor and a patient
pub record Couple : Type 0 where
  pub donor_antigens : ℕ
  pub donor_age : ℕ
  pub patient_antigens : ℕ
  pub patient_age : ℕ

abbrev pub couple : ℕ → ℕ → ℕ → ℕ → Couple
couple a b c d = record { donor_antigens = a; donor_age = b; patient_antigens = c; patient_age = d }

-- that donor in pair 0 and that patient in pair 1; of the other two, who are young, nothing is listed
abbrev pub coupled : Couple → ℕ → Pair
coupled c i =
    record {
      id = i;
      donor_blood = O;
      patient_blood = O;
      donor_age = cond (eqb i 0) c.donor_age 0;
      patient_age = cond (eqb i 1) c.patient_age 0;
      donor_antigens = cond (eqb i 0) c.donor_antigens 0;
      patient_antigens = cond (eqb i 1) c.patient_antigens 0;
      patient_antibodies = 0;
    }

-- what each weighs, by any points and by document 01's
abbrev pub weights_by : Points → List Couple → List ℕ
weights_by q l = map (λ (c : Couple). weight q (coupled c) 0 1) l

abbrev pub weights : List Couple → List ℕ
weights l = weights_by document_points l

-- "Age group: 0 young, 1 senior"; "0 mismatches, equal ages 1,450; 2 give 1,300; 3, young to senior 1,130; 4, the same 1,130; 5, senior to young 1,000",
-- "read with the mismatches all on the donor's side"
abbrev pub EdgeExamples : Type 0
EdgeExamples =
    weights (couple 7 0 7 0 ∷ couple 3 1 0 1 ∷ couple 7 0 0 1 ∷ couple 15 0 0 1 ∷ couple 31 1 0 0 ∷ [])
    ≡ 1450 ∷ 1300 ∷ 1130 ∷ 1130 ∷ 1000 ∷ []

-- where the patient has some of the donor's: of five three, of six two, of all 64 all but entry 32
abbrev pub SharedExamples : Type 0
SharedExamples =
    weights (couple 31 0 28 0 ∷ couple 63 0 48 1 ∷ couple 18446744073709551615 0 18446744069414584319 0 ∷ []) ≡ 1300 ∷ 1130 ∷ 1300 ∷ []

-- the five with antigens of the patient's alone; then five of these and none of the donor's
abbrev pub PatientsOwnExamples : Type 0
PatientsOwnExamples =
    weights (couple 7 0 31 0 ∷ couple 3 1 4 1 ∷ couple 7 0 24 1 ∷ couple 15 0 240 1 ∷ couple 31 1 18446744073709551584 0 ∷ couple 0 1 31 0 ∷ [])
    ≡ 1450 ∷ 1300 ∷ 1130 ∷ 1130 ∷ 1000 ∷ 1400 ∷ []

-- ## W by a registry's own points: document 02, W-205

-- no mismatch with equal ages, with a young donor and a senior patient, with a senior donor and a young patient; then 1, 2, 3, 4 and 5 mismatches
abbrev pub registry_couples : List Couple
registry_couples =
    couple 7 0 7 0
    ∷ couple 7 0 7 1
    ∷ couple 7 1 7 0
    ∷ couple 1 1 0 0
    ∷ couple 3 1 0 1
    ∷ couple 7 0 0 1
    ∷ couple 15 0 0 0
    ∷ couple 31 0 0 1
    ∷ []

-- by the points of version v with this table
abbrev pub registry_weights : ℕ → List ℕ → List ℕ
registry_weights v points = weights_by (points_of v (item_in points)) registry_couples

-- a registry in which more mismatches and a senior patient weigh more; one whose heaviest edge is as heavy as may be; and the first one's table in
-- version 1, which keeps document 01's
abbrev pub RegistryExamples : Type 0
RegistryExamples =
    (registry_weights 2 (2000 ∷ 60 ∷ 7 ∷ 300 ∷ 5 ∷ 90 ∷ []) ≡ 2065 ∷ 2150 ∷ 2060 ∷ 2007 ∷ 2012 ∷ 2390 ∷ 2305 ∷ 2090 ∷ [])
    × (registry_weights 2 (1 ∷ 60000 ∷ 40000 ∷ 20000 ∷ 5534 ∷ 5000 ∷ []) ≡ 65535 ∷ 65001 ∷ 60001 ∷ 40001 ∷ 45535 ∷ 25001 ∷ 25535 ∷ 5001 ∷ [])
    × (registry_weights 1 (2000 ∷ 60 ∷ 7 ∷ 300 ∷ 5 ∷ 90 ∷ []) ≡ 1450 ∷ 1430 ∷ 1400 ∷ 1250 ∷ 1300 ∷ 1130 ∷ 1150 ∷ 1030 ∷ [])

-- by document 01's points an edge weighs 1,000 to 1,450
abbrev pub DocumentRange : Type 0
DocumentRange = (pair : ℕ → Pair) (i j : ℕ) → (i ≡ j → ⊥) → (1000 ≤ weight document_points pair i j) × (weight document_points pair i j ≤ 1450)
