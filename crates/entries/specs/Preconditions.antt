-- What looking at the lent tables asks: that they have been checked. Assumes nothing.
use Rattle.std.specs.Prelude.{ℕ, ◌*◌, ◌≤◌, ◌<◌, List, length, get_or}
use Rattle.exchange.specs.Subsets.{entry, weigh}

-- the weight of a cycle of pairs, by lent tables
abbrev pub weight_of : ℕ → List ℕ → List ℕ → List ℕ → ℕ
weight_of n M W c = weigh (entry M n) (entry W n) c

-- tables of n rows of n, the compatibilities 0 or 1
pub record Readable (n : ℕ) (M W : List ℕ) : Type 0 where
  pub few : n ≤ 200
  pub compatibility : n * n ≤ length M
  pub points : n * n ≤ length W
  pub zero_or_one : (i j : ℕ) → i < n → j < n → entry M n i j ≤ 1

-- each of n places holds one of n pairs
pub record Shuffled (n : ℕ) (s : List ℕ) : Type 0 where
  pub long : n ≤ length s
  pub pairs : (p : ℕ) → p < n → get_or s p 0 < n

-- pairs of the pool
pub record Pairs (n : ℕ) (M W : List ℕ) (a b c : ℕ) : Type 0 where
  pub readable : Readable n M W
  pub first : a < n
  pub second : b < n
  pub third : c < n
