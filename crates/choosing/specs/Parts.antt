-- What choosing gives, as the definitions have it, and what it asks of its arguments. Assumes nothing.
use Rattle.std.specs.Prelude.{ℕ, ◌+◌, ◌*◌, ◌^◌, ◌≤◌, ◌<◌, ◌≡◌, List, length}
use Rattle.greedy.specs.Rounds as Rounds
use Rattle.exchange.specs.Subsets.{Scope, order, subset_count}
use Rattle.gates.specs.Counting.{counted, TallyRoom}
use Rattle.gates.specs.Secrets.{value_of}
use Rattle.gates.specs.declared.Gated.{Gated}
use Rattle.gates.specs.declared.Tally.{Tally}
use Rattle.cursor.specs.Cursor.{places_at}
use Rattle.cursor.specs.declared.Places.{Places}
use Rattle.choosing.specs.declared.Won.{Won}
use Rattle.choosing.specs.declared.Chosen.{Chosen}

-- the definitions' winner
abbrev pub won_by : Gated Won → Rounds.Winner
won_by r = Rounds.winner (value_of r.value.best.weight) (value_of r.value.best.number) (counted r.tally)

-- the definitions' choice
abbrev pub choice_made : Gated Chosen → Rounds.Chosen
choice_made r = record { number = value_of r.value.number; tally = counted r.tally }

-- the choice above the floor f, of a round that begins with the tally t
abbrev pub choice_of : Scope → ℕ → List ℕ → Tally → Rounds.Chosen
choice_of q f weights t = Rounds.chosen_in f (order q) weights (counted t)

-- the cursor stands at the subset of this number
pub record Standing (q : Scope) (number : ℕ) (p : Places) : Type 0 where
  pub few : q.pairs ≤ 200
  pub within : number < subset_count q
  pub there : p ≡ places_at q number

-- a part of the weights, whose first number is `first`, where the cursor stands
pub record Part (q : Scope) (weights : List ℕ) (first : ℕ) (p : Places) (t : Tally) : Type 0 where
  pub few : q.pairs ≤ 200
  pub some : 0 < length weights
  pub within : first + length weights ≤ subset_count q
  pub there : p ≡ places_at q first
  pub room : TallyRoom (length weights) (5 * length weights) t

-- all weights, and there are some
pub record Whole (q : Scope) (weights : List ℕ) (t : Tally) : Type 0 where
  pub few : q.pairs ≤ 200
  pub some : 0 < length weights
  pub whole : length weights ≡ subset_count q
  pub room : TallyRoom (length weights) (5 * length weights) t

-- round k: all weights, and a place for its choice
pub record Turn (q : Scope) (weights choices : List ℕ) (k : ℕ) (t : Tally) : Type 0 where
  pub all : Whole q weights t
  pub within : k < length choices
  pub rounds : t.rounds + 1 < 2 ^ 64
