-- What stands before the pairs, the pairs and the shuffle, written one after another, are a sheet. Assumes nothing.
use mathlib.Core.Path.{◌≡◌, ◌∙◌}
use mathlib.Core.Bool.{true, false}
use mathlib.Core.List.{List, ◌++◌, append_assoc, append-nil, flat_map}
use Prim.Native.Nat.{ℕ, ◌≤◌}
use native.Mathlib.Nat.{zero-add}
use native.Mathlib.Omega.{arith}
use lib.ListN.{length, length-append}
use Rattle.laws.specs.Below.{table}
use Rattle.laws.specs.Lent.{filled, stored}
use Rattle.laws.proofs.Below.{length-table}
use Rattle.laws.proofs.Lent.{stored_then, stored-filled}
use Rattle.pool.specs.Points.{has_points, point_count}
use Rattle.pool.specs.Sheet.{points_tag, head_size, points_place, first_pair, pair_place, sheet_length, head_field, numbers_field, points_field, opening, pair_field, shuffle_field, sheet_of}
use Rattle.pool.specs.Tables.{Tables, item_in, pair_in, pool_in}
use Rattle.pool.proofs.Points.{has_second, second_count}
use Rattle.pool.proofs.Lengths.{length-head_field, length-opening, length_pair_fields}

-- the head alone, where there are no points
pub opening_first : (v n : ℕ) (points old new : List ℕ) → has_points v ≡ false → new ≡ stored 0 (head_field v n) old → new ≡ stored 0 (opening v n points) old
unfolding opening points_field
opening_first v n points old new e f = f ∙ rw (e, append-nil)

-- the head, and the points after it
pub opening_second : (v n : ℕ) (p : ℕ → ℕ) (old one new : List ℕ) → has_points v ≡ true → head_size ≤ length old → one ≡ stored 0 (head_field v n) old
    → new ≡ stored points_place (numbers_field points_tag (table 6 p)) one → new ≡ stored 0 (opening v n (table (point_count v) p)) old
unfolding opening points_field
opening_second v n p old one new e l f g =
    stored_then 0 head_size _ _ old one new (length-head_field v n) l f g ∙ rw (e, second_count v (has_second v e))

pub sheet_pieces : (v n : ℕ) (t : Tables) (old one two new : List ℕ) → sheet_length v n ≤ length old
    → one ≡ stored 0 (opening v n (table (point_count v) (item_in t.points))) old
    → two ≡ stored (first_pair v) (flat_map pair_field (table n (pair_in t.fields))) one
    → new ≡ stored (pair_place v n) (shuffle_field (table n (item_in t.shuffle))) two → new ≡ filled (sheet_of (pool_in v n t)) old
unfolding sheet_of pool_in
sheet_pieces v n t old one two new l e f g =
    let points : List ℕ = table (point_count v) (item_in t.points) in
    let head : List ℕ = opening v n points in
    let pairs : List ℕ = flat_map pair_field (table n (pair_in t.fields)) in
    let shuffle : List ℕ = shuffle_field (table n (item_in t.shuffle)) in
    let size : length head ≡ first_pair v = length-opening v n points (length-table (point_count v) _) in
    let long : length (head ++ pairs) ≡ pair_place v n = simp (length-append, size, length_pair_fields, length-table) in
    let both : two ≡ stored 0 (head ++ pairs) old =
    stored_then 0 (first_pair v) head pairs old one two size (omega arith) e (rw zero-add f) in
    stored_then 0 (pair_place v n) (head ++ pairs) shuffle old two new long (omega arith) both (rw zero-add g)
    ∙ stored-filled ((head ++ pairs) ++ shuffle) old
    ∙ rw (append_assoc, length-table)
