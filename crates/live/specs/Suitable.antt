-- "How many donors suit each patient" (document 02, W-207): what is stored with a patient. Assumes nothing.
use Rattle.std.specs.Prelude.{ℕ, ◌+◌, ◌*◌, List, eqb}
use Rattle.laws.specs.Below.{table, count_below}
use Rattle.laws.specs.Lent.{filled}
use Rattle.pool.specs.Tables.{item_in}

-- "the ones in that patient's column of M": M is n rows of n, row i is donor i's, and column j is patient j's. An entry 2 is not a one
unfoldable pub ones_in : ℕ → List ℕ → ℕ → ℕ
ones_in n m j = count_below n (λ i. eqb (item_in m (i * n + j)) 1)

-- "Store the number with the patient": those of n patients in a table's first entries, and past them nothing changes
unfoldable pub with_numbers : ℕ → List ℕ → List ℕ → List ℕ
with_numbers n m t = filled (table n (ones_in n m)) t
