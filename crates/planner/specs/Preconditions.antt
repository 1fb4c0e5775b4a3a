-- What the steps ask of their arguments: that they have been checked. Assumes nothing.
use Rattle.std.specs.Prelude.{ℕ, ◌≤◌, ◌≡◌, List, length}
use Rattle.exchange.specs.Subsets.{subset_count}
use Rattle.exchange.specs.Input.{Request}
use Rattle.exchange.specs.Planning.{round_count}
use Rattle.exchange.specs.Faultless.{Shuffles}
use Rattle.entries.specs.Preconditions.{Readable, Shuffled}

-- checked tables, a weight for each subset and a choice for each round
pub record Stepping (r : Request) (weights choices : List ℕ) : Type 0 where
  pub readable : Readable r.scope.pairs r.compatibilities r.weights
  pub shuffled : Shuffled r.scope.pairs r.shuffle
  pub whole : length weights ≡ subset_count r.scope
  pub all : length choices ≡ round_count r.scope.pairs

-- checked tables, and room for the plan
pub record Checked (r : Request) (weights choices donors recipients : List ℕ) : Type 0 where
  pub readable : Readable r.scope.pairs r.compatibilities r.weights
  pub shuffled : Shuffled r.scope.pairs r.shuffle
  pub each_once : Shuffles r
  pub in_weights : subset_count r.scope ≤ length weights
  pub in_choices : round_count r.scope.pairs ≤ length choices
  pub in_donors : r.scope.pairs ≤ length donors
  pub in_recipients : r.scope.pairs ≤ length recipients
