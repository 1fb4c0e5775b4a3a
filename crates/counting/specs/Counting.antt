-- How many twos and triples there are among m places, and where the one of a number begins. Assumes nothing.
use Rattle.std.specs.Prelude.{ℕ, ◌+◌, ◌-◌, ◌*◌, ◌≤◌, ◌<◌, List, ◌≡◌, length, get_or}
use Rattle.exchange.specs.Subsets.{up_to_three, order}
use Rattle.exchange.specs.Promises.{how_many}

-- "A table for m from 0 to 200": "six times each entry is m × (m − 1) × (m − 2)"
pub record TripleTable (t : List ℕ) : Type 0 where
  pub entries : length t ≡ 201
  pub rule : (m : ℕ) → m ≤ 200 → 6 * get_or t m 0 ≡ m * (m - 1) * (m - 2)

-- how many subsets of m places have this size
abbrev pub of_size : ℕ → ℕ → ℕ
of_size size m = how_many size (order (up_to_three m))

-- of the subsets of n places that have this size, numbered in the published order, that of number k begins at place p: those of the places from p
-- on begin at number k or before, those of the places after p do not
pub record Begins (size n k p : ℕ) : Type 0 where
  pub within : p < n
  pub reached : of_size size n ≤ k + of_size size (n - p)
  pub passed : k + of_size size (n - (p + 1)) < of_size size n
