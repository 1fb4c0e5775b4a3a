-- Numbers and places, both ways (02, W-203). Assumes nothing.
use Rattle.std.specs.Prelude.{ℕ, ◌≤◌, ◌<◌, ◌≡◌}
use Rattle.exchange.specs.Subsets.{up_to_three, order, subset_count}
use Rattle.cursor.specs.Cursor.{OnSubset, places_at, number_in}
use Rattle.cursor.specs.declared.Places.{Places}

-- from a number to places and back, and from places to a number and back
pub record ThereAndBack (n : ℕ) : Type 0 where
  pub number : (k : ℕ) → k < subset_count (up_to_three n) → number_in n (order (up_to_three n)) (places_at (up_to_three n) k) ≡ k
  pub places : (p : Places) → OnSubset n p → places_at (up_to_three n) (number_in n (order (up_to_three n)) p) ≡ p

abbrev pub BothWays : Type 0
BothWays = (n : ℕ) → n ≤ 200 → ThereAndBack n
