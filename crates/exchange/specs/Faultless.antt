-- What planning accepts, and what each refusal says, without the order of its checks. Assumes nothing.
use Rattle.std.specs.Prelude.{ℕ, ◌*◌, ◌≤◌, ◌<◌, ◌≡◌, List, length, get_or}
use Rattle.pool.specs.Faultless.{EachOnce}
use Rattle.exchange.specs.Subsets.{subset_count, entry}
use Rattle.exchange.specs.Input.{Request}
use Rattle.exchange.specs.Planning.{Lent, round_count, most_floor}

-- no lent table is too short
pub record LongEnough (r : Request) (t : Lent) : Type 0 where
  pub compatibility : r.scope.pairs * r.scope.pairs ≤ length r.compatibilities
  pub points : r.scope.pairs * r.scope.pairs ≤ length r.weights
  pub shuffle : r.scope.pairs ≤ length r.shuffle
  pub weights : subset_count r.scope ≤ length t.weights
  pub choices : round_count r.scope.pairs ≤ length t.choices
  pub donors : r.scope.pairs ≤ length t.donors
  pub recipients : r.scope.pairs ≤ length t.recipients
  pub records : round_count r.scope.pairs ≤ length t.records

-- M entries are 0 or 1, and M(i, i) = 0
pub record Compatibility (n : ℕ) (M : List ℕ) : Type 0 where
  pub zero_or_one : (i j : ℕ) → i < n → j < n → entry M n i j ≤ 1
  pub own : (i : ℕ) → i < n → entry M n i i ≡ 0

-- no present edge weighs 0: where M(i, j) is 1, W(i, j) is more
abbrev pub Weighty : ℕ → (ℕ → ℕ → ℕ) → (ℕ → ℕ → ℕ) → Type 0
Weighty n m w = (i j : ℕ) → i < n → j < n → m i j ≡ 1 → 0 < w i j

-- that of lent tables
abbrev pub WeightyTables : ℕ → List ℕ → List ℕ → Type 0
WeightyTables n M W = Weighty n (entry M n) (entry W n)

-- the shuffle has each number once
abbrev pub Shuffles : Request → Type 0
Shuffles r = EachOnce r.scope.pairs (λ j. get_or r.shuffle j 0)

pub record FaultlessInput (r : Request) (t : Lent) : Type 0 where
  pub few : r.scope.pairs ≤ 200
  pub low : r.floor ≤ most_floor
  pub long : LongEnough r t
  pub each_once : Shuffles r
  pub compatible : Compatibility r.scope.pairs r.compatibilities
  pub weighty : WeightyTables r.scope.pairs r.compatibilities r.weights

-- "planning checks 4, 9, 8, 10", 13 "after 4, where the floor is above 200,000", and 17 "after 10, where M(i, j) is 1 and W(i, j) is 0": a refusal's fault
-- is there, and none that is checked before it
pub data PlanFault (r : Request) (t : Lent) : ℕ → Type 0 where
  too_many_pairs : 200 < r.scope.pairs → PlanFault r t 4
  floor_too_high : r.scope.pairs ≤ 200 → most_floor < r.floor → PlanFault r t 13
  too_short : r.scope.pairs ≤ 200 → r.floor ≤ most_floor → (LongEnough r t → ⊥) → PlanFault r t 9
  not_a_shuffle : r.scope.pairs ≤ 200 → r.floor ≤ most_floor → LongEnough r t → (Shuffles r → ⊥) → PlanFault r t 8
  not_compatibility :
      r.scope.pairs ≤ 200
      → r.floor ≤ most_floor
      → LongEnough r t
      → Shuffles r
      → (Compatibility r.scope.pairs r.compatibilities → ⊥)
      → PlanFault r t 10
  weightless_edge :
      r.scope.pairs ≤ 200
      → r.floor ≤ most_floor
      → LongEnough r t
      → Shuffles r
      → Compatibility r.scope.pairs r.compatibilities
      → (i j : ℕ)
      → i < r.scope.pairs
      → j < r.scope.pairs
      → entry r.compatibilities r.scope.pairs i j ≡ 1
      → entry r.weights r.scope.pairs i j ≡ 0
      → PlanFault r t 17
