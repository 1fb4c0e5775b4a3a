-- Examples, as bytes: the order of a pair's numbers and of the points, which points pass, document 01's sheet, that sheet joined with an addendum, and
-- sheets of version 2 joined. Assumes nothing.
use Rattle.std.specs.Prelude.{ℕ, ◌≡◌, take, replicate}
use mathlib.Core.List.{List, [], ◌∷◌, ◌++◌, flatten}
use Rattle.refusal.specs.Fault.{Fault, none, fault}
use Rattle.refusal.specs.Answer.{finished, refused, outcome}
use Rattle.pool.specs.Pool.{Pair}
use Rattle.pool.specs.Points.{Points, document_points, points_by}
use Rattle.pool.specs.Sheet.{head_field, points_field, pair_field, point_at, pair_at}
use Rattle.pool.specs.Tables.{item_in}
use Rattle.pool.specs.Faults.{points_fault}
use Rattle.pool.specs.Joining.{joining}

-- ## The order of a pair's numbers, tried on a field whose 32 value bytes are 1 to 32: as it is written, and as it is read

-- "id (4 bytes), donor blood, patient blood, donor age group, patient age group (1 byte each), donor antigens, patient antigens, patient antibodies
-- (8 bytes each)"
abbrev pub counted_pair : Pair
counted_pair =
    record {
      id = 0x01020304;
      donor_blood = 5;
      patient_blood = 6;
      donor_age = 7;
      patient_age = 8;
      donor_antigens = 0x090a0b0c0d0e0f10;
      patient_antigens = 0x1112131415161718;
      patient_antibodies = 0x191a1b1c1d1e1f20;
    }

-- its field: tag 2, length 32, and the bytes from 1 to 32
abbrev pub counted_field : List ℕ
counted_field = 2 ∷ 0 ∷ 32 ∷ 1 ∷ 2 ∷ 3 ∷ 4 ∷ 5 ∷ 6 ∷ 7 ∷ 8 ∷ 9 ∷ 10 ∷ 11 ∷ 12 ∷ 13 ∷ 14 ∷ 15 ∷ 16 ∷ 17 ∷ 18 ∷ 19 ∷ 20 ∷ 21 ∷ 22 ∷ 23 ∷ 24 ∷ 25 ∷ 26 ∷ 27 ∷ 28 ∷ 29 ∷ 30 ∷ 31 ∷ 32 ∷ []

pub record FieldOrder : Type 0 where
  pub written : pair_field counted_pair ≡ counted_field
  pub read : pair_at (head_field 1 1 ++ counted_field) 0 ≡ counted_pair

-- ## The order of the points, on a field whose 12 value bytes are 1 to 12

-- "base, three mismatch steps, two age steps, in document 01's order, two bytes each"
abbrev pub counted_points : Points
counted_points =
    record {
      base = 0x0102;
      no_mismatch = 0x0304;
      few_mismatches = 0x0506;
      some_mismatches = 0x0708;
      equal_ages = 0x090a;
      young_to_senior = 0x0b0c;
    }

-- its field: tag 4, length 12, and the bytes from 1 to 12
abbrev pub counted_points_field : List ℕ
counted_points_field = 4 ∷ 0 ∷ 12 ∷ 1 ∷ 2 ∷ 3 ∷ 4 ∷ 5 ∷ 6 ∷ 7 ∷ 8 ∷ 9 ∷ 10 ∷ 11 ∷ 12 ∷ []

pub record PointsOrder : Type 0 where
  pub written : points_field 2 (0x0102 ∷ 0x0304 ∷ 0x0506 ∷ 0x0708 ∷ 0x090a ∷ 0x0b0c ∷ []) ≡ counted_points_field
  pub first_written : points_field 1 (0x0102 ∷ 0x0304 ∷ 0x0506 ∷ 0x0708 ∷ 0x090a ∷ 0x0b0c ∷ []) ≡ []
  pub read : points_by (point_at (head_field 2 0 ++ counted_points_field)) ≡ counted_points

-- ## Which points pass: "the base is 0 or base, largest mismatch step and larger age step together exceed 65,535"

abbrev pub judged : List ℕ → Fault
judged l = points_fault 7 (points_by (item_in l))

pub record PointsJudged : Type 0 where
  pub document : points_fault 7 document_points ≡ none
  -- the largest step in any place, the larger age step in either, up to the limit
  pub third : judged (1 ∷ 0 ∷ 0 ∷ 65534 ∷ 0 ∷ 0 ∷ []) ≡ none
  pub second : judged (1 ∷ 100 ∷ 65500 ∷ 200 ∷ 34 ∷ 4 ∷ []) ≡ none
  pub young : judged (5 ∷ 65000 ∷ 0 ∷ 0 ∷ 4 ∷ 530 ∷ []) ≡ none
  pub base_alone : judged (65535 ∷ 0 ∷ 0 ∷ 0 ∷ 0 ∷ 0 ∷ []) ≡ none
  -- and above it; a base of 0; a sum that would be small in 16 bits
  pub no_base : judged (0 ∷ 400 ∷ 250 ∷ 100 ∷ 50 ∷ 30 ∷ []) ≡ fault 14 7
  pub third_too_heavy : judged (2 ∷ 0 ∷ 0 ∷ 65534 ∷ 0 ∷ 0 ∷ []) ≡ fault 14 7
  pub young_too_heavy : judged (5 ∷ 65000 ∷ 0 ∷ 0 ∷ 4 ∷ 531 ∷ []) ≡ fault 14 7
  pub second_too_heavy : judged (2 ∷ 100 ∷ 65500 ∷ 200 ∷ 34 ∷ 4 ∷ []) ≡ fault 14 7
  pub wraps : judged (65535 ∷ 65535 ∷ 0 ∷ 0 ∷ 2 ∷ 0 ∷ []) ≡ fault 14 7

-- ## Document 01's example

-- a pair's field: the id's last two bytes, blood of donor and patient, and zeros
abbrev pub example_pair : ℕ → ℕ → ℕ → ℕ → List ℕ
example_pair high low donor patient = (2 ∷ 0 ∷ 32 ∷ 0 ∷ 0 ∷ high ∷ low ∷ donor ∷ patient ∷ 0 ∷ 0 ∷ []) ++ replicate 24 0

-- "01 0004 0001 0002; 02 0020 0000000B 01 02 00 00 and 24 zero bytes; 02 0020 0000000C 02 01 00 00 and 24 zero bytes; 03 0004 0000 0001"
abbrev pub example_sheet : List ℕ
example_sheet = (1 ∷ 0 ∷ 4 ∷ 0 ∷ 1 ∷ 0 ∷ 2 ∷ []) ++ (example_pair 0 11 1 2 ++ (example_pair 0 12 2 1 ++ (3 ∷ 0 ∷ 4 ∷ 0 ∷ 0 ∷ 0 ∷ 1 ∷ [])))

-- ## An addendum to it

-- three pairs, with the shuffle 2 0 1; the first id ends as one of the example's does
abbrev pub addendum_sheet : List ℕ
addendum_sheet =
    flatten
    ((1 ∷ 0 ∷ 4 ∷ 0 ∷ 1 ∷ 0 ∷ 3 ∷ [])
    ∷ example_pair 1 11 0 3
    ∷ example_pair 0 14 3 0
    ∷ example_pair 0 15 1 0
    ∷ (3 ∷ 0 ∷ 6 ∷ 0 ∷ 2 ∷ 0 ∷ 0 ∷ 0 ∷ 1 ∷ [])
    ∷ [])

-- the first's pairs, then the addendum's; the shuffle 0 1, then 2 0 1 with 2 added to each. 84 and 121 bytes give 195
abbrev pub example_and_addendum : List ℕ
example_and_addendum =
    flatten
    ((1 ∷ 0 ∷ 4 ∷ 0 ∷ 1 ∷ 0 ∷ 5 ∷ [])
    ∷ example_pair 0 11 1 2
    ∷ example_pair 0 12 2 1
    ∷ example_pair 1 11 0 3
    ∷ example_pair 0 14 3 0
    ∷ example_pair 0 15 1 0
    ∷ (3 ∷ 0 ∷ 10 ∷ 0 ∷ 0 ∷ 0 ∷ 1 ∷ 0 ∷ 4 ∷ 0 ∷ 2 ∷ 0 ∷ 3 ∷ [])
    ∷ [])

-- into a buffer of 199 bytes that each hold 99, and of 194; with itself; and a sheet whose shuffle is cut off, beside one that is cut off at once
pub record ExampleJoined : Type 0 where
  pub joined : joining example_sheet addendum_sheet (replicate 199 99) ≡ outcome (finished 195) (example_and_addendum ++ (99 ∷ 99 ∷ 99 ∷ 99 ∷ []))
  pub short : joining example_sheet addendum_sheet (replicate 194 99) ≡ outcome (refused 9 0) (replicate 194 99)
  pub shared : joining example_sheet example_sheet (99 ∷ []) ≡ outcome (refused 11 0) (99 ∷ [])
  pub first_own : joining (take 83 example_sheet) (1 ∷ []) (99 ∷ []) ≡ outcome (refused 1 77) (99 ∷ [])
  pub second_own : joining example_sheet (take 83 example_sheet) (99 ∷ []) ≡ outcome (refused 1 77) (99 ∷ [])

-- ## Version 2

-- a sheet of version 2 with one pair and these points, each below 256
abbrev pub one_pair : ℕ → ℕ → ℕ → ℕ → ℕ → ℕ → ℕ → List ℕ
one_pair low a b c d e f =
    flatten
    ((1 ∷ 0 ∷ 4 ∷ 0 ∷ 2 ∷ 0 ∷ 1 ∷ [])
    ∷ (4 ∷ 0 ∷ 12 ∷ 0 ∷ a ∷ 0 ∷ b ∷ 0 ∷ c ∷ 0 ∷ d ∷ 0 ∷ e ∷ 0 ∷ f ∷ [])
    ∷ example_pair 0 low 1 2
    ∷ (3 ∷ 0 ∷ 2 ∷ 0 ∷ 0 ∷ [])
    ∷ [])

-- of two pairs, with the points 1 to 6: 62 and 62 bytes give 99
abbrev pub two_pairs : List ℕ
two_pairs =
    flatten
    ((1 ∷ 0 ∷ 4 ∷ 0 ∷ 2 ∷ 0 ∷ 2 ∷ [])
    ∷ (4 ∷ 0 ∷ 12 ∷ 0 ∷ 1 ∷ 0 ∷ 2 ∷ 0 ∷ 3 ∷ 0 ∷ 4 ∷ 0 ∷ 5 ∷ 0 ∷ 6 ∷ [])
    ∷ example_pair 0 11 1 2
    ∷ example_pair 0 12 1 2
    ∷ (3 ∷ 0 ∷ 4 ∷ 0 ∷ 0 ∷ 0 ∷ 1 ∷ [])
    ∷ [])

-- the sheet of version v, below 256 and without points, with no pair
abbrev pub empty_sheet : ℕ → List ℕ
empty_sheet v = 1 ∷ 0 ∷ 4 ∷ 0 ∷ v ∷ 0 ∷ 0 ∷ 3 ∷ 0 ∷ 0 ∷ []

-- with the same points; with a sheet of no pair and version 1; with another last point and the same id; a base of 0; versions 0 and 3; version 2 without
-- its points; and a base of 0 where the sheet is cut off after the points, and in them
pub record PointsJoined : Type 0 where
  pub joined : joining (one_pair 11 1 2 3 4 5 6) (one_pair 12 1 2 3 4 5 6) (replicate 99 99) ≡ outcome (finished 99) two_pairs
  pub versions : joining (one_pair 11 1 2 3 4 5 6) (empty_sheet 1) (99 ∷ []) ≡ outcome (refused 15 0) (99 ∷ [])
  pub points : joining (one_pair 11 1 2 3 4 5 6) (one_pair 11 1 2 3 4 5 7) (99 ∷ []) ≡ outcome (refused 15 0) (99 ∷ [])
  pub own : joining (one_pair 11 1 2 3 4 5 6) (one_pair 12 0 2 3 4 5 6) (99 ∷ []) ≡ outcome (refused 14 7) (99 ∷ [])
  pub no_version : joining (empty_sheet 0) (empty_sheet 1) (99 ∷ []) ≡ outcome (refused 3 0) (99 ∷ [])
  pub later_version : joining (empty_sheet 3) (empty_sheet 1) (99 ∷ []) ≡ outcome (refused 3 0) (99 ∷ [])
  pub points_missing : joining (empty_sheet 2) (empty_sheet 1) (99 ∷ []) ≡ outcome (refused 2 7) (99 ∷ [])
  pub before_pairs : joining (take 22 (one_pair 11 0 2 3 4 5 6)) (empty_sheet 1) (99 ∷ []) ≡ outcome (refused 14 7) (99 ∷ [])
  pub after_field : joining (take 21 (one_pair 11 0 2 3 4 5 6)) (empty_sheet 1) (99 ∷ []) ≡ outcome (refused 1 7) (99 ∷ [])
