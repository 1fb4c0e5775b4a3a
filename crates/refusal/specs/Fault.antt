-- What is wrong with an input, as a refusal's number in document 01 and its place; and the order in which faults are told. Assumes nothing.
use Rattle.std.specs.Prelude.{ℕ, zero, suc, Bool, true, false}

infixr 20 ◌then◌
pub data Fault : Type 0 where
  none : Fault
  fault : ℕ → ℕ → Fault

-- refusal k with place o where the test holds
unfoldable pub refuse : ℕ → ℕ → Bool → Fault
refuse k o true = fault k o
refuse k o false = none

-- a fault that is looked for only where the test holds
unfoldable pub only : Bool → Fault → Fault
only true f = f
only false f = none

-- the first fault of two
unfoldable pub ◌then◌ : Fault → Fault → Fault
none then g = g
(fault k o) then g = fault k o

-- the first fault among f 0, f 1, .., f (n - 1)
unfoldable pub first_below : ℕ → (ℕ → Fault) → Fault
first_below zero f = none
first_below (suc n) f = first_below n f then f n
