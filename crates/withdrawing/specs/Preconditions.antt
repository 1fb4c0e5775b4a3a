-- What taking a pair out asks of the tables. Assumes nothing.
use Rattle.std.specs.Prelude.{ℕ, ◌*◌, ◌≤◌, List, length}
use Rattle.pool.specs.Tables.{Fields}
use Rattle.pool.specs.Faultless.{FieldsHold}
use Rattle.graph.specs.Graph.{Graph}
use Rattle.suiting.specs.Preconditions.{Lowerable}

-- one of n pairs, in tables that hold n, with the numbers t, which are the ones in their columns
pub record OneOf (a n : ℕ) (f : Fields) (g : Graph) (t : List ℕ) : Type 0 where
  pub numbers : Lowerable a n g.compatibilities t
  pub fields : FieldsHold n f
  pub weights : n * n ≤ length g.weights
