-- What the steps of printing ask of a plan's tables. Assumes nothing.
use Rattle.std.specs.Prelude.{ℕ, ◌≤◌, List, length}

-- the tables of a plan of n pairs can hold them
pub record PlanTablesHold (n : ℕ) (idTable donor_table recipient_table : List ℕ) : Type 0 where
  pub ids : n ≤ length idTable
  pub donors : n ≤ length donor_table
  pub recipients : n ≤ length recipient_table
