-- A table without one entry, or without one row and one column, whatever its entries are. At numbers these are `without_entry` and `without_row` of
-- Rattle.live.specs.Calls, by `number_out` and `numbers_out` of Rattle.shifting.proofs.Numbers. Assumes nothing.
use mathlib.Core.List.{flat_map}
use Rattle.std.specs.Prelude.{ℕ, ◌-◌, ◌*◌, List, take, drop}
use Rattle.std.specs.List.{remove}
use Rattle.laws.specs.Below.{table}
use Rattle.laws.specs.Lent.{filled}
use Rattle.live.specs.Calls.{up}

module _ {A : Type 0} where
  -- n entries of a table without that at a: one fewer, and what stands past them is unchanged
  unfoldable pub one_out : ℕ → ℕ → List A → List A
  one_out a n t = filled (remove (take n t) a) t

  -- row i of rows of n, without its entry at a
  unfoldable pub row_without : ℕ → ℕ → List A → ℕ → List A
  row_without a n t i = remove (take n (drop (i * n) t)) a

  -- n rows of n without that at a, and each that stays without its entry at a
  unfoldable pub cross_out : ℕ → ℕ → List A → List A
  cross_out a n t = filled (flat_map (row_without a n t) (table (n - 1) (up a))) t
