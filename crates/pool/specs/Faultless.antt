-- What has none of the listed faults, and what each fault is, said without the reader and the writer. Assumes nothing.
use Rattle.std.specs.Prelude.{ℕ, ◌+◌, ◌≤◌, ◌<◌, ◌≡◌, List, length}
use Rattle.laws.specs.Below.{Once}
use Rattle.laws.specs.Digits.{big_endian}
use Rattle.pool.specs.Pool.{Pair}
use Rattle.pool.specs.Points.{Points, points_by, points_of}
use Rattle.pool.specs.Sheet.{head_tag, head_length, pair_tag, pair_length, shuffle_tag, shuffle_length, points_tag, points_length, start_length, points_place, sheet_length}
use Rattle.pool.specs.Sheet.{version_in, pairs_in, pair_due, shuffle_due, point_at, pair_at, shuffle_at}
use Rattle.pool.specs.Tables.{Fields, Tables, item_in, points_of_table, pair_in}

-- ## Version and points

-- version 1 or 2
pub record KnownVersion (v : ℕ) : Type 0 where
  pub least : 1 ≤ v
  pub most : v ≤ 2

-- what a mismatch step adds to the base fits 16 bits with either age step
pub record StepFits (q : Points) (step : ℕ) : Type 0 where
  pub equal_ages : q.base + step + q.equal_ages ≤ 65535
  pub young_to_senior : q.base + step + q.young_to_senior ≤ 65535

-- a base above 0, and each of the three steps, with no word of the largest
pub record SoundPoints (q : Points) : Type 0 where
  pub base : 0 < q.base
  pub no_mismatch : StepFits q q.no_mismatch
  pub few_mismatches : StepFits q q.few_mismatches
  pub some_mismatches : StepFits q q.some_mismatches

-- ## Pairs and shuffle

-- blood 0 to 3, age group 0 to 1
pub record InRange (q : Pair) : Type 0 where
  pub donor_blood : q.donor_blood ≤ 3
  pub patient_blood : q.patient_blood ≤ 3
  pub donor_age : q.donor_age ≤ 1
  pub patient_age : q.patient_age ≤ 1

-- "no two alike": the ids of two of the first n pairs differ
abbrev pub Unlike : ℕ → (ℕ → Pair) → Type 0
Unlike n pair = (i j : ℕ) → j < i → i < n → (pair j).id ≡ (pair i).id → ⊥

-- "each of 0 to N − 1 exactly once"
abbrev pub EachOnce : ℕ → (ℕ → ℕ) → Type 0
EachOnce n s = (v : ℕ) → v < n → Once n s v

-- a pool of version v: its own points, n pairs and their shuffle
pub record Faultless (v : ℕ) (p : ℕ → ℕ) (n : ℕ) (pair : ℕ → Pair) (s : ℕ → ℕ) : Type 0 where
  pub version : KnownVersion v
  pub points : SoundPoints (points_of v p)
  pub few : n ≤ 200
  pub in_range : (i : ℕ) → i < n → InRange (pair i)
  pub unlike : Unlike n pair
  pub each_once : EachOnce n s

-- ## A sheet

-- a whole field at o, of this tag and length
pub record Field (b : List ℕ) (o tag len : ℕ) : Type 0 where
  pub whole : o + start_length + len ≤ length b
  pub tagged : big_endian 1 b o ≡ tag
  pub sized : big_endian 2 b (o + 1) ≡ len

-- the fields that are due
abbrev pub HeadField : List ℕ → Type 0
HeadField b = Field b 0 head_tag head_length

abbrev pub PointsField : List ℕ → Type 0
PointsField b = Field b points_place points_tag points_length

abbrev pub PairField : List ℕ → ℕ → Type 0
PairField b i = Field b (pair_due b i) pair_tag pair_length

abbrev pub ShuffleField : List ℕ → Type 0
ShuffleField b = Field b (shuffle_due b) shuffle_tag (shuffle_length (pairs_in b))

-- the head is whole, of version 1 or 2, and says at most 200 pairs
pub record FaultlessHead (b : List ℕ) : Type 0 where
  pub field : HeadField b
  pub version : KnownVersion (version_in b)
  pub few : pairs_in b ≤ 200

-- the points' field is whole, and they are sound; of version 1 nothing is asked
pub record FaultlessPoints (b : List ℕ) : Type 0 where
  pub field : PointsField b
  pub sound : SoundPoints (points_by (point_at b))

abbrev pub PointsWhereDue : List ℕ → Type 0
PointsWhereDue b = version_in b ≡ 2 → FaultlessPoints b

-- pair i's field is whole, its groups are in range, and its id is no earlier pair's
pub record FaultlessPair (b : List ℕ) (i : ℕ) : Type 0 where
  pub field : PairField b i
  pub in_range : InRange (pair_at b i)
  pub unlike : (j : ℕ) → j < i → (pair_at b j).id ≡ (pair_at b i).id → ⊥

-- the shuffle's field is whole, and has each number once
pub record FaultlessShuffle (b : List ℕ) : Type 0 where
  pub field : ShuffleField b
  pub each_once : EachOnce (pairs_in b) (shuffle_at b (pairs_in b))

-- all of them, and nothing after
pub record FaultlessSheet (b : List ℕ) : Type 0 where
  pub head : FaultlessHead b
  pub points : PointsWhereDue b
  pub pair : (i : ℕ) → i < pairs_in b → FaultlessPair b i
  pub shuffle : FaultlessShuffle b
  pub nothing_after : length b ≡ sheet_length (version_in b) (pairs_in b)

-- a field that is due at a place, with its tag and length
pub data Due (b : List ℕ) : ℕ → ℕ → ℕ → Type 0 where
  head : Due b 0 head_tag head_length
  points : version_in b ≡ 2 → Due b points_place points_tag points_length
  pair : (i : ℕ) → i < pairs_in b → Due b (pair_due b i) pair_tag pair_length
  shuffle : Due b (shuffle_due b) shuffle_tag (shuffle_length (pairs_in b))

-- what is looked at before a field that is due has no fault: "reading goes forward, field by field"
pub data Forward (b : List ℕ) : ℕ → Type 0 where
  head : Forward b 0
  points : version_in b ≡ 2 → FaultlessHead b → Forward b points_place
  pair : (i : ℕ) → i < pairs_in b → FaultlessHead b → PointsWhereDue b → ((j : ℕ) → j < i → FaultlessPair b j) → Forward b (pair_due b i)
  shuffle : FaultlessHead b → PointsWhereDue b → ((j : ℕ) → j < pairs_in b → FaultlessPair b j) → Forward b (shuffle_due b)

-- fault k of a sheet, at place o: it is there, and none that is looked for before it
pub data SheetFault (b : List ℕ) : ℕ → ℕ → Type 0 where
  start_cut_off : (o tag len : ℕ) → Due b o tag len → Forward b o → length b < o + start_length → SheetFault b 1 o
  wrong_tag : (o tag len : ℕ) → Due b o tag len → Forward b o → o + start_length ≤ length b → (big_endian 1 b o ≡ tag → ⊥) → SheetFault b 2 o
  wrong_length :
      (o tag len : ℕ)
      → Due b o tag len
      → Forward b o
      → o + start_length ≤ length b
      → big_endian 1 b o ≡ tag
      → (big_endian 2 b (o + 1) ≡ len → ⊥)
      → SheetFault b 2 o
  value_cut_off :
      (o tag len : ℕ)
      → Due b o tag len
      → Forward b o
      → big_endian 1 b o ≡ tag
      → big_endian 2 b (o + 1) ≡ len
      → length b < o + start_length + len
      → SheetFault b 1 o
  wrong_version : HeadField b → (KnownVersion (version_in b) → ⊥) → SheetFault b 3 0
  too_many_pairs : HeadField b → KnownVersion (version_in b) → 200 < pairs_in b → SheetFault b 4 0
  wrong_points : version_in b ≡ 2 → FaultlessHead b → PointsField b → (SoundPoints (points_by (point_at b)) → ⊥) → SheetFault b 14 points_place
  out_of_range : (i : ℕ) → i < pairs_in b → Forward b (pair_due b i) → PairField b i → (InRange (pair_at b i) → ⊥) → SheetFault b 6 (pair_due b i)
  repeated_id :
      (i j : ℕ)
      → j < i
      → i < pairs_in b
      → Forward b (pair_due b i)
      → PairField b i
      → InRange (pair_at b i)
      → (pair_at b j).id ≡ (pair_at b i).id
      → SheetFault b 7 (pair_due b i)
  not_a_shuffle :
      Forward b (shuffle_due b)
      → ShuffleField b
      → (EachOnce (pairs_in b) (shuffle_at b (pairs_in b)) → ⊥)
      → SheetFault b 8 (shuffle_due b)
  left_over :
      Forward b (shuffle_due b)
      → FaultlessShuffle b
      → sheet_length (version_in b) (pairs_in b) < length b
      → SheetFault b 5 (sheet_length (version_in b) (pairs_in b))

-- ## Lent tables

-- none of the tables of the fields is shorter than n
pub record FieldsHold (n : ℕ) (f : Fields) : Type 0 where
  pub ids : n ≤ length f.ids
  pub donor_blood : n ≤ length f.donor_blood
  pub patient_blood : n ≤ length f.patient_blood
  pub donor_age : n ≤ length f.donor_age
  pub patient_age : n ≤ length f.patient_age
  pub donor_antigens : n ≤ length f.donor_antigens
  pub patient_antigens : n ≤ length f.patient_antigens
  pub patient_antibodies : n ≤ length f.patient_antibodies

-- of version 2 that of the points is not shorter than six; of version 1 it may have any length
abbrev pub PointsHold : ℕ → List ℕ → Type 0
PointsHold v l = v ≡ 2 → 6 ≤ length l

pub record TablesHold (v n : ℕ) (t : Tables) : Type 0 where
  pub points : PointsHold v t.points
  pub fields : FieldsHold n t.fields
  pub shuffle : n ≤ length t.shuffle

-- a pool of version v in the first n entries of lent tables
pub record FaultlessPool (v n : ℕ) (t : Tables) : Type 0 where
  pub hold : TablesHold v n t
  pub pool : Faultless v (item_in t.points) n (pair_in t.fields) (item_in t.shuffle)

-- the pairs before the i-th have none of 6 and 7
abbrev pub NoneBefore : ℕ → (ℕ → Pair) → Type 0
NoneBefore i at = (j : ℕ) → j < i → InRange (at j) × ((h : ℕ) → h < j → (at h).id ≡ (at j).id → ⊥)

-- what is looked at before the pairs has no fault: the version, N, tables that `Hold` the pool, and the points that it is weighed by
pub record Ready (v n : ℕ) (Hold : Type 0) (q : Points) : Type 0 where
  pub version : KnownVersion v
  pub few : n ≤ 200
  pub hold : Hold
  pub points : SoundPoints q

-- 3, 4, 9, 14, 6 or 7 of n pairs: fault k is there, and none that is looked for before it
pub data PairsFault (v n : ℕ) (Hold : Type 0) (q : Points) (pair : ℕ → Pair) : ℕ → Type 0 where
  wrong_version : (KnownVersion v → ⊥) → PairsFault v n Hold q pair 3
  too_many_pairs : KnownVersion v → 200 < n → PairsFault v n Hold q pair 4
  table_too_short : KnownVersion v → n ≤ 200 → (Hold → ⊥) → PairsFault v n Hold q pair 9
  wrong_points : KnownVersion v → n ≤ 200 → Hold → (SoundPoints q → ⊥) → PairsFault v n Hold q pair 14
  out_of_range : (i : ℕ) → i < n → Ready v n Hold q → NoneBefore i pair → (InRange (pair i) → ⊥) → PairsFault v n Hold q pair 6
  repeated_id :
      (i j : ℕ)
      → j < i
      → i < n
      → Ready v n Hold q
      → NoneBefore i pair
      → InRange (pair i)
      → (pair j).id ≡ (pair i).id
      → PairsFault v n Hold q pair 7

-- fault k of writing a pool into a buffer of so many bytes: one of its pairs, or one that is looked for after them
pub data PoolFault (v n : ℕ) (t : Tables) (space : ℕ) : ℕ → Type 0 where
  pairs : (k : ℕ) → PairsFault v n (TablesHold v n t) (points_of_table v t.points) (pair_in t.fields) k → PoolFault v n t space k
  not_a_shuffle :
      Ready v n (TablesHold v n t) (points_of_table v t.points)
      → NoneBefore n (pair_in t.fields)
      → (EachOnce n (item_in t.shuffle) → ⊥)
      → PoolFault v n t space 8
  buffer_too_short : FaultlessPool v n t → space < sheet_length v n → PoolFault v n t space 9
