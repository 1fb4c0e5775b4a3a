-- What evaluation asks of its arguments. Assumes nothing.
use Rattle.std.specs.Prelude.{ℕ, ◌*◌, ◌≡◌, List, length}
use Rattle.exchange.specs.Subsets.{Scope, subset_count}
use Rattle.gates.specs.Counting.{TallyRoom}
use Rattle.gates.specs.declared.Tally.{Tally}
use Rattle.entries.specs.Preconditions.{Readable, Shuffled}

-- checked tables, and a weight for each subset
pub record Evaluating (q : Scope) (M W s weights : List ℕ) (t : Tally) : Type 0 where
  pub readable : Readable q.pairs M W
  pub shuffled : Shuffled q.pairs s
  pub whole : length weights ≡ subset_count q
  pub room : TallyRoom (length weights) (7 * length weights) t
