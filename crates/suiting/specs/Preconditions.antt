-- What counting and taking out ask of M and of the table of the numbers. Assumes nothing.
use Rattle.std.specs.Prelude.{ℕ, ◌*◌, ◌≤◌, ◌<◌, ◌≡◌, List, length}
use Rattle.pool.specs.Tables.{item_in}
use Rattle.live.specs.Suitable.{ones_in}
use Rattle.suiting.specs.Counted.{ones_above}

-- n rows of n, and n numbers
pub record Countable (n : ℕ) (m t : List ℕ) : Type 0 where
  pub few : n ≤ 200
  pub rows : n * n ≤ length m
  pub numbers : n ≤ length t

-- the numbers are those of the rows above row i
pub record CountedAbove (i n : ℕ) (m t : List ℕ) : Type 0 where
  pub tables : Countable n m t
  pub inside : i < n
  pub counted : (j : ℕ) → j < n → item_in t j ≡ ones_above i n m j

-- the numbers are the ones in their columns, and a is one of the pairs
pub record Lowerable (a n : ℕ) (m t : List ℕ) : Type 0 where
  pub tables : Countable n m t
  pub inside : a < n
  pub numbered : (j : ℕ) → j < n → item_in t j ≡ ones_in n m j
