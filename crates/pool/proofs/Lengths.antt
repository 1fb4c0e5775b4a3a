-- How long the fields and the sheet are. Assumes nothing.
use mathlib.Core.Path.{◌≡◌, refl, sym, ap, ◌∙◌}
use mathlib.Core.Bool.{Bool, true, false, cond}
use mathlib.Core.List.{List, [], flat_map}
use Prim.Native.Nat.{ℕ, ◌+◌, ◌*◌}
use native.Mathlib.Omega.{arith}
use lib.ListN.{length, length-append}
use Rattle.laws.specs.Digits.{bytes}
use Rattle.laws.proofs.Below.{length-table}
use Rattle.laws.proofs.Lists.{length_flat_map}
use Rattle.laws.proofs.Digits.{length-bytes}
use Rattle.pool.specs.Pool.{Pair, Pool}
use Rattle.pool.specs.Points.{has_points, point_count}
use Rattle.pool.specs.Sheet.{points_tag, field, head_field, numbers_field, points_field, opening, pair_field, sheet_of}
use Rattle.pool.specs.Sheet.{start_length, head_size, points_size, first_pair, pair_size, sheet_length}
use Rattle.pool.specs.Tables.{Tables, pair_in, pool_in}

pub length-field : (tag : ℕ) (value : List ℕ) → length (field tag value) ≡ start_length + length value
unfolding field bytes
length-field tag value = omega arith

pub length-head_field : (v n : ℕ) → length (head_field v n) ≡ head_size
unfolding head_field field bytes
length-head_field v n = refl

pub length-pair_field : (q : Pair) → length (pair_field q) ≡ pair_size
unfolding pair_field field bytes
length-pair_field q = refl

-- "length 2N"
pub length_numbers : (s : List ℕ) → length (flat_map (bytes 2) s) ≡ 2 * length s
length_numbers s = length_flat_map (bytes 2) 2 (length-bytes 2) s

pub length-numbers_field : (tag : ℕ) (s : List ℕ) → length (numbers_field tag s) ≡ start_length + 2 * length s
unfolding numbers_field
length-numbers_field tag s = length-field tag (flat_map (bytes 2) s) ∙ ap (λ (k : ℕ). start_length + k) (length_numbers s)

pub length-points_field : (v : ℕ) (points : List ℕ) → length points ≡ point_count v → length (points_field v points) ≡ points_size v
unfolding points_field point_count points_size
length-points_field v points = go (has_points v)
  where
    go : (t : Bool) → length points ≡ cond t 6 0 → length (cond t (numbers_field points_tag points) []) ≡ cond t 15 0
    go true e = length-numbers_field points_tag points ∙ ap (λ (k : ℕ). start_length + 2 * k) e
    go false e = refl

pub length-opening : (v n : ℕ) (points : List ℕ) → length points ≡ point_count v → length (opening v n points) ≡ first_pair v
unfolding opening
length-opening v n points e = simp (length-append, length-head_field, length-points_field v points e)

pub length_pair_fields : (ps : List Pair) → length (flat_map pair_field ps) ≡ pair_size * length ps
length_pair_fields ps = length_flat_map pair_field pair_size length-pair_field ps

pub length-sheet_of : (p : Pool) → length p.points ≡ point_count p.version → length p.shuffle ≡ length p.pairs
    → length (sheet_of p) ≡ sheet_length p.version (length p.pairs)
unfolding sheet_of
length-sheet_of p e h =
    simp (length-append, length-opening p.version (length p.pairs) p.points e, length_pair_fields, length-numbers_field, h) (omega arith)

pub length_sheet_in : (v n : ℕ) (t : Tables) → length (sheet_of (pool_in v n t)) ≡ sheet_length v n
unfolding pool_in
length_sheet_in v n t =
    length-sheet_of (pool_in v n t) (length-table (point_count v) _) (length-table n _ ∙ sym (length-table n _))
    ∙ ap (sheet_length v) (length-table n (pair_in t.fields))
