-- What the rounds ask of their arguments. Assumes nothing.
use Rattle.std.specs.Prelude.{ℕ, ◌+◌, ◌*◌, ◌^◌, ◌≤◌, ◌<◌, ◌≡◌, List, length}
use Rattle.exchange.specs.Subsets.{Scope, subset_count}
use Rattle.exchange.specs.Planning.{round_count}
use Rattle.gates.specs.declared.Tally.{Tally}

-- r rounds over so many weights leave each count within its 64 bits
pub record RoomFor (r weights : ℕ) (t : Tally) : Type 0 where
  pub comparisons : t.comparisons + r * weights < 2 ^ 64
  pub products : t.products + r * (8 * weights) < 2 ^ 64
  pub rounds : t.rounds + r < 2 ^ 64

-- a weight for each subset, a choice for each round
pub record Rounding (q : Scope) (weights choices : List ℕ) (t : Tally) : Type 0 where
  pub few : q.pairs ≤ 200
  pub whole : length weights ≡ subset_count q
  pub all : length choices ≡ round_count q.pairs
  pub room : RoomFor (length choices) (length weights) t
