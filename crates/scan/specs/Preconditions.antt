-- What the steps of the search ask of their arguments. Assumes nothing.
use Rattle.std.specs.Prelude.{ℕ, ◌≤◌, ◌<◌, ◌≡◌, List, length, get_or}
use Rattle.pool.specs.Sheet.{pair_at}

-- the ids of the first n pairs of a sheet stand in a table
pub record Noted (b : List ℕ) (n : ℕ) (ids : List ℕ) : Type 0 where
  pub held : n ≤ length ids
  pub noted : (j : ℕ) → j < n → get_or ids j 0 ≡ (pair_at b j).id
