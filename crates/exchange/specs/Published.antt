-- The published order, the cycles of subsets and what a cycle weighs, said a second time, without the functions that list and fold them. Assumes nothing.
use Rattle.std.specs.Prelude.{ℕ, ◌+◌, ◌*◌, ◌≤◌, ◌<◌, ◌≡◌, length, get_or}
use mathlib.Core.List.{List, [], ◌∷◌, Memᴰ}
use Rattle.exchange.specs.Subsets.{subsets, cycles, weigh, heaviest}
use Rattle.exchange.specs.Rivals.{Each}

-- "u < v < w": places below n, each less than the next
abbrev pub Rising : ℕ → List ℕ → Type 0
Rising n [] = Unit {0}
Rising n (p ∷ []) = p < n
Rising n (p ∷ q ∷ s) = (p < q) × Rising n (q ∷ s)

-- s comes before t "in ascending order", place by place
pub data Before : List ℕ → List ℕ → Type 0 where
  here : {p q : ℕ} {s t : List ℕ} → p < q → Before (p ∷ s) (q ∷ t)
  there : {p : ℕ} {s t : List ℕ} → Before s t → Before (p ∷ s) (p ∷ t)

-- "all triples in ascending order, then all twos in ascending order"
pub data Precedes (s t : List ℕ) : Type 0 where
  larger : length t < length s → Precedes s t
  earlier : length s ≡ length t → Before s t → Precedes s t

-- each precedes all after it
abbrev pub Sorted : List (List ℕ) → Type 0
Sorted [] = Unit {0}
Sorted (s ∷ ss) = Each (λ (t : List ℕ). Precedes s t) ss × Sorted ss

-- the subsets of two to l of n places
pub record Published (l n : ℕ) : Type 0 where
  pub rising : Each (λ (s : List ℕ). Rising n s × (2 ≤ length s) × (length s ≤ l)) (subsets l n)
  pub sorted : Sorted (subsets l n)
  pub all : (s : List ℕ) → Rising n s → 2 ≤ length s → length s ≤ l → Memᴰ s (subsets l n)

abbrev pub PublishedOrder : Type 0
PublishedOrder = (l n : ℕ) → Published l n

-- "A two has one cycle; a triple has u→v→w→u (first) and u→w→v→u (second)"
abbrev pub CyclesOfTwo : Type 0
CyclesOfTwo = (u v : ℕ) → cycles (u ∷ v ∷ []) ≡ (u ∷ v ∷ []) ∷ []

abbrev pub CyclesOfTriple : Type 0
CyclesOfTriple = (u v w : ℕ) → cycles (u ∷ v ∷ w ∷ []) ≡ (u ∷ v ∷ w ∷ []) ∷ (u ∷ w ∷ v ∷ []) ∷ []

-- "A cycle weighs the product of its M entries times the sum of its W entries": of two pairs, and of three
abbrev pub WeighTwo : Type 0
WeighTwo = (m w : ℕ → ℕ → ℕ) (a b : ℕ) → weigh m w (a ∷ b ∷ []) ≡ m a b * m b a * (w a b + w b a)

abbrev pub WeighThree : Type 0
WeighThree =
    (m w : ℕ → ℕ → ℕ) (a b c : ℕ)
    → weigh m w (a ∷ b ∷ c ∷ []) ≡ m a b * m b c * m c a * (w a b + w b c + w c a)

-- ## "The first wins a tie": of several cycles, or subsets, the heaviest is the first of greatest weight

pub record FirstOfGreatest (weight : List ℕ → ℕ) (cs : List (List ℕ)) (c : List ℕ) : Type 0 where
  pub at : ℕ
  pub within : at < length cs
  pub there : get_or cs at [] ≡ c
  -- none outweighs it, and every earlier one is below it
  pub greatest : (i : ℕ) → i < length cs → weight (get_or cs i []) ≤ weight c
  pub first : (i : ℕ) → i < at → weight (get_or cs i []) < weight c

abbrev pub HeaviestIsFirst : Type 0
HeaviestIsFirst = (weight : List ℕ → ℕ) (c : List ℕ) (cs : List (List ℕ)) → FirstOfGreatest weight (c ∷ cs) (heaviest weight (c ∷ cs))
