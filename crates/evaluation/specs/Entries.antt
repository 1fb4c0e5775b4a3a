-- The weight of a cycle whose edges' entries come by value. Assumes nothing.
use Rattle.std.specs.Prelude.{ℕ, ◌+◌, ◌*◌, ◌^◌, ◌≤◌, ◌<◌, cond, ◌≡◌, List, [], ◌∷◌, ltb}
use Rattle.exchange.specs.Subsets.{entry}
use Rattle.gates.specs.Secrets.{value_of}
use Rattle.evaluation.specs.declared.EdgeEntries.{EdgeEntries}

-- M(i, j) is 0 or 1, and W(i, j) has 16 bits
pub record EdgeInRange (e : EdgeEntries) : Type 0 where
  pub zero_or_one : value_of e.m ≤ 1
  pub sixteen : value_of e.w < 2 ^ 16

-- the entries of donor i and patient j, by lent tables
pub record Between (n : ℕ) (M W : List ℕ) (i j : ℕ) (e : EdgeEntries) : Type 0 where
  pub m : value_of e.m ≡ entry M n i j
  pub w : value_of e.w ≡ entry W n i j

unfoldable pub compatibilities : List EdgeEntries → ℕ
compatibilities [] = 1
compatibilities (e ∷ es) = value_of e.m * compatibilities es

unfoldable pub weights : List EdgeEntries → ℕ
weights [] = 0
weights (e ∷ es) = value_of e.w + weights es

-- "A cycle weighs the product of its M entries times the sum of its W entries"
unfoldable pub cycle_weight : List EdgeEntries → ℕ
cycle_weight es = compatibilities es * weights es

-- "A triple weighs the larger"
abbrev pub larger : ℕ → ℕ → ℕ
larger x y = cond (ltb x y) y x
