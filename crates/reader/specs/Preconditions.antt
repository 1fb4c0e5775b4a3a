-- What the steps of reading ask of their arguments. Assumes nothing.
use Rattle.std.specs.Prelude.{ℕ, ◌≤◌, ◌≡◌, List, length}
use Rattle.pool.specs.Points.{point_count}
use Rattle.pool.specs.Sheet.{sheet_length, version_in, pairs_in}
use Rattle.pool.specs.Tables.{Tables, room}

-- a whole sheet of n pairs, and tables that can hold them and its points
pub record Fillable (b : List ℕ) (v n : ℕ) (t : Tables) : Type 0 where
  pub version : v ≡ version_in b
  pub many : n ≡ pairs_in b
  pub few : n ≤ 200
  pub whole : sheet_length v n ≤ length b
  pub held : n ≤ room t
  pub held_points : point_count v ≤ length t.points
