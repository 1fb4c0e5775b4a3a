-- What clearing asks of its arguments. Assumes nothing.
use Rattle.std.specs.Prelude.{ℕ, ◌*◌, ◌≤◌, ◌≡◌, List, length}
use Rattle.exchange.specs.Subsets.{Scope, subset_count}
use Rattle.gates.specs.Counting.{TallyRoom}
use Rattle.gates.specs.declared.Tally.{Tally}

-- a weight for each subset
pub record Clearing (q : Scope) (weights : List ℕ) (t : Tally) : Type 0 where
  pub few : q.pairs ≤ 200
  pub whole : length weights ≡ subset_count q
  pub room : TallyRoom 0 (3 * length weights) t
