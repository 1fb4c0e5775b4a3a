-- What resolution asks of its arguments. Assumes nothing.
use Rattle.std.specs.Prelude.{ℕ, ◌+◌, ◌*◌, ◌^◌, ◌≤◌, ◌<◌, ◌≡◌, List, length}
use Rattle.cycle.specs.declared.Cycle.{Cycle}
use Rattle.entries.specs.Preconditions.{Readable, Shuffled}
use Rattle.resolution.specs.declared.Giving.{Giving}
use Rattle.resolution.specs.declared.Resolved.{Resolved}

-- a cycle of n pairs, and a partner for each pair
pub record Partners (n : ℕ) (c : Cycle) (donors recipients : List ℕ) : Type 0 where
  pub first : c.first < n
  pub second : c.second < n
  pub third : c.third ≤ n
  pub all_donors : length donors ≡ n
  pub all_recipients : length recipients ≡ n

-- there is room for a cycle more
pub record RecordRoom (r : Resolved) (g : Giving) : Type 0 where
  pub few : r.cycles < 100
  pub light : r.weight + g.weight < 2 ^ 64

-- checked tables, and room for a cycle more: one weighs less than 3 * 2 ^ 16
pub record One (n : ℕ) (M W s : List ℕ) (r : Resolved) (donors recipients : List ℕ) : Type 0 where
  pub readable : Readable n M W
  pub shuffled : Shuffled n s
  pub few : r.cycles < 100
  pub light : r.weight + 3 * 2 ^ 16 < 2 ^ 64
  pub records : length r.records ≡ 100
  pub all_donors : length donors ≡ n
  pub all_recipients : length recipients ≡ n

-- at most 100 choices, and a partner for each pair
pub record Resolving (n : ℕ) (M W s choices donors recipients : List ℕ) : Type 0 where
  pub readable : Readable n M W
  pub shuffled : Shuffled n s
  pub few : length choices ≤ 100
  pub all_donors : length donors ≡ n
  pub all_recipients : length recipients ≡ n
