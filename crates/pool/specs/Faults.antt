-- "Turned back, by whom it is caused": each fault, and the order in which they are looked for. Assumes nothing.
use Rattle.std.specs.Prelude.{ℕ, ◌+◌, not, List, length, eqb, ltb}
use Rattle.laws.specs.Below.{either, any_below, count_below}
use Rattle.laws.specs.Digits.{big_endian}
use Rattle.refusal.specs.Fault.{Fault, refuse, only, ◌then◌, first_below}
use Rattle.pool.specs.Pool.{Pair}
use Rattle.pool.specs.Points.{Points, points_by, known_version, has_points, point_count, heaviest}
use Rattle.pool.specs.Sheet.{head_tag, head_length, pair_tag, pair_length, shuffle_tag, shuffle_length, points_tag, points_length, start_length, points_place, sheet_length}
use Rattle.pool.specs.Sheet.{version_in, pairs_in, pair_due, point_at, pair_at, shuffle_at}
use Rattle.pool.specs.Tables.{Tables, item_in, points_of_table, room, pair_in}

-- ## The hospital's, and whoever drew the shuffle's: in a sheet, and in lent tables

-- "6 blood above 3 or age group above 1"
unfoldable pub group_fault : ℕ → ℕ → ℕ → ℕ → ℕ → Fault
group_fault o donor_blood patient_blood donor_age patient_age =
    refuse 6 o (ltb 3 donor_blood)
    then refuse 6 o (ltb 3 patient_blood)
    then refuse 6 o (ltb 1 donor_age)
    then refuse 6 o (ltb 1 patient_age)

-- "7 id of an earlier pair"
unfoldable pub id_fault : ℕ → (ℕ → ℕ) → ℕ → Fault
id_fault o id i = refuse 7 o (any_below i (λ j. eqb (id j) (id i)))

-- "6 and 7 pair by pair": those of pair i, whose place is o
unfoldable pub pair_fault : ℕ → (ℕ → Pair) → ℕ → Fault
pair_fault o pair i =
    group_fault o (pair i).donor_blood (pair i).patient_blood (pair i).donor_age (pair i).patient_age then id_fault o (λ j. (pair j).id) i

-- "8 not each number once" among s 0, .., s (n - 1)
unfoldable pub shuffle_fault : ℕ → ℕ → (ℕ → ℕ) → Fault
shuffle_fault o n s = refuse 8 o (any_below n (λ v. not (eqb (count_below n (λ j. eqb (s j) v)) 1)))

-- ## The sender's, in a sheet and in lent tables

-- "3 version": neither 1 nor 2
unfoldable pub version_fault : ℕ → ℕ → Fault
version_fault o v = refuse 3 o (not (known_version v))

-- "14 where the base is 0 or base, largest mismatch step and larger age step together exceed 65,535". Document 01's points pass
unfoldable pub points_fault : ℕ → Points → Fault
points_fault o q = refuse 14 o (either (eqb q.base 0) (ltb 65535 (heaviest q)))

-- ## A sheet's: "reading goes forward, field by field"

-- "1 a field's three-byte start or value is cut off or missing; 2 tag or length not the one due": start 1, tag and length 2, value 1
unfoldable pub field_fault : List ℕ → ℕ → ℕ → ℕ → Fault
field_fault b o tag len =
    refuse 1 o (ltb (length b) (o + start_length))
    then refuse 2 o (not (eqb (big_endian 1 b o) tag))
    then refuse 2 o (not (eqb (big_endian 2 b (o + 1)) len))
    then refuse 1 o (ltb (length b) (o + start_length + len))

-- "then 3 and 4": version; N above 200
unfoldable pub head_fault : List ℕ → Fault
head_fault b =
    field_fault b 0 head_tag head_length
    then version_fault 0 (version_in b)
    then refuse 4 0 (ltb 200 (pairs_in b))

-- version 2's, "directly after that field's value"
unfoldable pub points_field_fault : List ℕ → Fault
points_field_fault b =
    only (has_points (version_in b)) (field_fault b points_place points_tag points_length then points_fault points_place (points_by (point_at b)))

-- "or 6 and 7"
unfoldable pub pair_field_fault : List ℕ → ℕ → Fault
pair_field_fault b i =
    field_fault b (pair_due b i) pair_tag pair_length then pair_fault (pair_due b i) (pair_at b) i

-- "or 8", on a sheet of n pairs
unfoldable pub shuffle_field_fault : List ℕ → ℕ → Fault
shuffle_field_fault b n =
    field_fault b (pair_due b n) shuffle_tag (shuffle_length n)
    then shuffle_fault (pair_due b n) n (shuffle_at b n)

-- "at the end 5": bytes left over, with the place of the first byte too many
unfoldable pub end_fault : List ℕ → ℕ → Fault
end_fault b n = refuse 5 (sheet_length (version_in b) n) (ltb (sheet_length (version_in b) n) (length b))

unfoldable pub sheet_fault : List ℕ → Fault
sheet_fault b =
    head_fault b
    then points_field_fault b
    then first_below (pairs_in b) (pair_field_fault b)
    then shuffle_field_fault b (pairs_in b)
    then end_fault b (pairs_in b)

-- ## The calling program's

-- "then 9": what is lent has fewer entries than are to be filled
unfoldable pub room_fault : ℕ → ℕ → Fault
room_fault space n = refuse 9 0 (ltb space n)

-- n pairs and their points in lent tables, those of the pairs with `space` entries in the shortest: "9 where a table of the fields is shorter than N";
-- "For version 2 a points table shorter than six counts for 9 as a table of the fields"
unfoldable pub tables_fault : ℕ → ℕ → ℕ → List ℕ → Fault
tables_fault v n space points = room_fault space n then room_fault (length points) (point_count v)

-- "In writing and building, 3 comes first and 14 directly before 6": 3, 4, 9, 14
unfoldable pub before_fault : ℕ → ℕ → ℕ → List ℕ → Fault
before_fault v n space points =
    version_fault 0 v
    then refuse 4 0 (ltb 200 n)
    then tables_fault v n space points
    then points_fault 0 (points_of_table v points)

-- "then 6 and 7 pair by pair", all with place 0
unfoldable pub pairs_fault : ℕ → ℕ → ℕ → List ℕ → (ℕ → Pair) → Fault
pairs_fault v n space points pair = before_fault v n space points then first_below n (pair_fault 0 pair)

-- with their shuffle: "then 8"
unfoldable pub pool_fault : ℕ → ℕ → Tables → Fault
pool_fault v n t = pairs_fault v n (room t) t.points (pair_in t.fields) then shuffle_fault 0 n (item_in t.shuffle)
