-- What is said of 0, 1, .., n - 1 in turn. Each goes from below, so that a loop's invariant is the same word at the loop's counter.
-- Assumes nothing.
use Rattle.std.specs.Prelude.{ℕ, zero, suc, ◌+◌, ◌<◌, ◌≡◌, List, [], ◌∷◌, ◌++◌, Bool, true, false}

-- the list f 0, f 1, .., f (n - 1)
unfoldable pub table : {A : Type 0} → ℕ → (ℕ → A) → List A
table zero f = []
table (suc n) f = table n f ++ (f n ∷ [])

-- one test or the other holds
unfoldable pub either : Bool → Bool → Bool
either true b = true
either false b = b

-- does p hold anywhere below n?
unfoldable pub any_below : ℕ → (ℕ → Bool) → Bool
any_below zero p = false
any_below (suc n) p = either (any_below n p) (p n)

-- 1 where the test holds, else 0
unfoldable pub one : Bool → ℕ
one true = 1
one false = 0

-- how often p holds below n
unfoldable pub count_below : ℕ → (ℕ → Bool) → ℕ
count_below zero p = 0
count_below (suc n) p = count_below n p + one (p n)

-- P holds of some k below n
pub record Some (n : ℕ) (P : ℕ → Type 0) : Type 0 where
  pub at : ℕ
  pub below : at < n
  pub there : P at

-- P holds of one k below n and of no other, with no counting
pub record ExactlyOne (n : ℕ) (P : ℕ → Type 0) : Type 0 where
  pub at : ℕ
  pub below : at < n
  pub there : P at
  pub only : (k : ℕ) → k < n → P k → k ≡ at

-- v is f j for one j below n and for no other
abbrev pub Once : ℕ → (ℕ → ℕ) → ℕ → Type 0
Once n f v = ExactlyOne n (λ j. f j ≡ v)
