-- "Building the tables from a pool's fields": M and W, N rows of N. Assumes nothing.
use Rattle.std.specs.Prelude.{ℕ, ◌*◌, ◌/◌, ◌%◌, List}
use Rattle.laws.specs.Below.{table}
use Rattle.laws.specs.Lent.{filled, stored}
use Rattle.pool.specs.Pool.{Pair}
use Rattle.pool.specs.Points.{Points}
use Rattle.donation.specs.Compatibility.{compatibility}
use Rattle.donation.specs.Weight.{weight}

-- the two tables that a caller lends: "M of bytes, W of 16-bit numbers"
pub record Graph : Type 0 where
  pub compatibilities : List ℕ
  pub weights : List ℕ

abbrev pub graph : List ℕ → List ℕ → Graph
graph m w = record { compatibilities = m; weights = w }

-- "N rows of N", "row i holding donor i": the entry of row i and column j stands at i * n + j
unfoldable pub in_rows : ℕ → (ℕ → ℕ → ℕ) → List ℕ
in_rows n entry = table (n * n) (λ k. entry (k / n) (k % n))

-- "It fills N rows of N and changes nothing past them"
unfoldable pub filled_graph : Points → ℕ → (ℕ → Pair) → Graph → Graph
filled_graph points n pair g =
    graph (filled (in_rows n (compatibility pair)) g.compatibilities) (filled (in_rows n (weight points pair)) g.weights)

-- a step of it: row i in its place in one of the tables
unfoldable pub with_row : ℕ → (ℕ → ℕ → ℕ) → ℕ → List ℕ → List ℕ
with_row n entry i t = stored (i * n) (table n (entry i)) t
