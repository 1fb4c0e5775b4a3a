-- What the function that writes a plan's records asks. Assumes nothing.
use Rattle.std.specs.Prelude.{ℕ, ◌≤◌, List, length}
use Rattle.cycle.specs.declared.Cycle.{Cycle}

-- there are so many records, and room for them
pub record Writable (cycles : ℕ) (out : List Cycle) : Type 0 where
  pub held : cycles ≤ 100
  pub room : cycles ≤ length out
