-- A column of M, counted as far as a row. Assumes nothing.
use Rattle.std.specs.Prelude.{ℕ, ◌+◌, ◌*◌, List, eqb}
use Rattle.laws.specs.Below.{count_below}
use Rattle.pool.specs.Tables.{item_in}

-- the ones in the first i entries of column j, of n rows of n
unfoldable pub ones_above : ℕ → ℕ → List ℕ → ℕ → ℕ
ones_above i n m j = count_below i (λ k. eqb (item_in m (k * n + j)) 1)
