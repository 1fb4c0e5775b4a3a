-- "The pool sheet", and document 02's version 2: how a pool is written, and what stands where on a sheet. Assumes nothing.
use Rattle.std.specs.Prelude.{ℕ, ◌+◌, ◌*◌, cond, length}
use mathlib.Core.List.{List, [], ◌++◌, flat_map}
use Rattle.laws.specs.Below.{table}
use Rattle.laws.specs.Digits.{big_endian, bytes}
use Rattle.pool.specs.Pool.{Pair, Pool}
use Rattle.pool.specs.Points.{registry_points, has_points, point_count}

-- ## Tags, and lengths of the values

-- "Tag 1, length 4"
abbrev pub head_tag : ℕ
head_tag = 1

abbrev pub head_length : ℕ
head_length = 4

-- "Tag 2, length 32, N times"
abbrev pub pair_tag : ℕ
pair_tag = 2

abbrev pub pair_length : ℕ
pair_length = 32

-- "Tag 3, length 2N"
abbrev pub shuffle_tag : ℕ
shuffle_tag = 3

abbrev pub shuffle_length : ℕ → ℕ
shuffle_length n = 2 * n

-- W-205: "a tag 4 field of length 12"
abbrev pub points_tag : ℕ
points_tag = 4

abbrev pub points_length : ℕ
points_length = 2 * registry_points

-- ## Written

-- "Fields: one-byte tag, two-byte length of the value, value."
unfoldable pub field : ℕ → List ℕ → List ℕ
field tag value = bytes 1 tag ++ (bytes 2 (length value) ++ value)

-- "Tag 1, length 4: version (2 bytes, is 1), N (2 bytes, 0 to 200)." Since W-205 the version is 1 or 2
unfoldable pub head_field : ℕ → ℕ → List ℕ
head_field v n = field head_tag (bytes 2 v ++ bytes 2 n)

-- a field of two-byte numbers
unfoldable pub numbers_field : ℕ → List ℕ → List ℕ
numbers_field tag s = field tag (flat_map (bytes 2) s)

-- "Sheet version 2 has a tag 4 field of length 12 after the head: base, three mismatch steps, two age steps, [..] two bytes each"
unfoldable pub points_field : ℕ → List ℕ → List ℕ
points_field v points = cond (has_points v) (numbers_field points_tag points) []

-- what stands before the pairs
unfoldable pub opening : ℕ → ℕ → List ℕ → List ℕ
opening v n points = head_field v n ++ points_field v points

-- "Tag 2, length 32, N times: id (4 bytes), donor blood, patient blood, donor age group, patient age group (1 byte each), donor antigens,
-- patient antigens, patient antibodies (8 bytes each)."
unfoldable pub pair_field : Pair → List ℕ
pair_field q =
    field pair_tag
    (bytes 4 q.id
    ++ (bytes 1 q.donor_blood
    ++ (bytes 1 q.patient_blood
    ++ (bytes 1 q.donor_age
    ++ (bytes 1 q.patient_age ++ (bytes 8 q.donor_antigens ++ (bytes 8 q.patient_antigens ++ bytes 8 q.patient_antibodies)))))))

-- "Tag 3, length 2N: the shuffle, N two-byte numbers."
abbrev pub shuffle_field : List ℕ → List ℕ
shuffle_field s = numbers_field shuffle_tag s

-- "In this order, with nothing after."
unfoldable pub sheet_of : Pool → List ℕ
sheet_of p = opening p.version (length p.pairs) p.points ++ (flat_map pair_field p.pairs ++ shuffle_field p.shuffle)

-- ## Where it stands

-- a field's start: its tag, and the length of its value
abbrev pub start_length : ℕ
start_length = 3

-- in the head: the version, then N
abbrev pub version_place : ℕ
version_place = start_length

abbrev pub pairs_place : ℕ
pairs_place = version_place + 2

abbrev pub head_size : ℕ
head_size = start_length + head_length

-- "after the head": the points of version 2, which take no room in version 1
abbrev pub points_place : ℕ
points_place = head_size

unfoldable pub points_size : ℕ → ℕ
points_size v = cond (has_points v) (start_length + points_length) 0

-- then the pairs' fields, each with its start
abbrev pub first_pair : ℕ → ℕ
first_pair v = head_size + points_size v

abbrev pub pair_size : ℕ
pair_size = start_length + pair_length

-- "Pair i is the i-th tag 2 field, from 0." The shuffle's field stands where a pair N would
abbrev pub pair_place : ℕ → ℕ → ℕ
pair_place v i = first_pair v + pair_size * i

-- how far into a pair's field each of its numbers stands
abbrev pub id_at : ℕ
id_at = start_length

abbrev pub donor_blood_at : ℕ
donor_blood_at = id_at + 4

abbrev pub patient_blood_at : ℕ
patient_blood_at = donor_blood_at + 1

abbrev pub donor_age_at : ℕ
donor_age_at = patient_blood_at + 1

abbrev pub patient_age_at : ℕ
patient_age_at = donor_age_at + 1

abbrev pub donor_antigens_at : ℕ
donor_antigens_at = patient_age_at + 1

abbrev pub patient_antigens_at : ℕ
patient_antigens_at = donor_antigens_at + 8

abbrev pub patient_antibodies_at : ℕ
patient_antibodies_at = patient_antigens_at + 8

-- the bytes of a sheet of version v with n pairs. "The longest sheet has 7,410 bytes", and in version 2 7,425
abbrev pub sheet_length : ℕ → ℕ → ℕ
sheet_length v n = pair_place v n + start_length + shuffle_length n

-- number j of a field of two-byte numbers that stands at o
unfoldable pub number_at : List ℕ → ℕ → ℕ → ℕ
number_at b o j = big_endian 2 b (o + start_length + 2 * j)

-- the version, and N
unfoldable pub version_in : List ℕ → ℕ
version_in b = big_endian 2 b version_place

unfoldable pub pairs_in : List ℕ → ℕ
pairs_in b = big_endian 2 b pairs_place

-- where pair i's field is due on this sheet, and the shuffle's
abbrev pub pair_due : List ℕ → ℕ → ℕ
pair_due b i = pair_place (version_in b) i

abbrev pub shuffle_due : List ℕ → ℕ
shuffle_due b = pair_due b (pairs_in b)

unfoldable pub pair_at : List ℕ → ℕ → Pair
pair_at b i =
    record {
      id = big_endian 4 b (pair_due b i + id_at);
      donor_blood = big_endian 1 b (pair_due b i + donor_blood_at);
      patient_blood = big_endian 1 b (pair_due b i + patient_blood_at);
      donor_age = big_endian 1 b (pair_due b i + donor_age_at);
      patient_age = big_endian 1 b (pair_due b i + patient_age_at);
      donor_antigens = big_endian 8 b (pair_due b i + donor_antigens_at);
      patient_antigens = big_endian 8 b (pair_due b i + patient_antigens_at);
      patient_antibodies = big_endian 8 b (pair_due b i + patient_antibodies_at);
    }

-- the points' number k; "In this order": the base is number 0
abbrev pub point_at : List ℕ → ℕ → ℕ
point_at b k = number_at b points_place k

-- the shuffle's number j on a sheet of n pairs
abbrev pub shuffle_at : List ℕ → ℕ → ℕ → ℕ
shuffle_at b n j = number_at b (pair_due b n) j

-- the pool that a sheet says
unfoldable pub pool_of : List ℕ → Pool
pool_of b =
    record {
      version = version_in b;
      points = table (point_count (version_in b)) (point_at b);
      pairs = table (pairs_in b) (pair_at b);
      shuffle = table (pairs_in b) (shuffle_at b (pairs_in b));
    }
