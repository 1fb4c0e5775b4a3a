-- What the steps of taking a pair out ask of their tables. Assumes nothing.
use Rattle.std.specs.Prelude.{ℕ, ◌+◌, ◌*◌, ◌≤◌, ◌<◌, List, length}

module _ {A : Type 0} where
  -- so many entries from a place on, which is not before the one that they go to
  pub record Later (to from count : ℕ) (t : List A) : Type 0 where
    pub later : to ≤ from
    pub inside : from + count ≤ length t

  -- entry a of n, in a table that holds n
  pub record Entry (a n : ℕ) (t : List A) : Type 0 where
    pub inside : a < n
    pub fits : n ≤ length t

  -- row a of n, in a table that n rows of n fit
  pub record Square (a n : ℕ) (t : List A) : Type 0 where
    pub inside : a < n
    pub few : n ≤ 200
    pub fits : n * n ≤ length t
