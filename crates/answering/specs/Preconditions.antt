-- What the steps of answering ask. Assumes nothing.
use Rattle.std.specs.Prelude.{ℕ, ◌≤◌}
use Rattle.pool.specs.Tables.{Tables}
use Rattle.pool.specs.Faultless.{FaultlessPool}
use Rattle.answers.specs.Most.{most}

-- a pool that was read: it has none of the faults, and at most 40 pairs
pub record Read (v n : ℕ) (t : Tables) : Type 0 where
  pub few : n ≤ most
  pub faultless : FaultlessPool v n t
