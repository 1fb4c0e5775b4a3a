-- The laws of the gates. Assumes nothing.
use Prim.Native.Nat.{ℕ, ◌+◌}
use mathlib.Core.Bool.{Bool, true, false, cond}
use mathlib.Core.Path.{◌≡◌, ap, ◌∙◌}
use native.Mathlib.Omega.{arith}
use lib.Dec.{eqb}
use Rattle.laws.specs.Below.{one}
use Rattle.greedy.specs.Tally as Tallies
use Rattle.greedy.specs.Tally.{raise}
use Rattle.gates.specs.Counting.{counted, Raised}
use Rattle.gates.specs.Secrets.{value_of}
use Rattle.gates.specs.declared.Secret.{Secret}
use Rattle.gates.specs.declared.Tally.{Tally}

-- ## A bit that is a test

pub pick_by : (t : Bool) (bit a b x : ℕ) → bit ≡ one t → x ≡ cond (eqb bit 1) a b → x ≡ cond t a b
unfolding one
pick_by true bit a b x e f = f ∙ ap (λ (k : ℕ). cond (eqb k 1) a b) e
pick_by false bit a b x e f = f ∙ ap (λ (k : ℕ). cond (eqb k 1) a b) e

-- ## Secrets

-- a secret is its value
pub same : (a b : Secret) → value_of a ≡ value_of b → a ≡ b
same a b e = ap made e
  where
    made : ℕ → Secret
    made k = record { value = k }

pub same_cond : (t : Bool) (x a b : Secret) → value_of x ≡ cond t (value_of a) (value_of b) → x ≡ cond t a b
same_cond true x a b e = same x a e
same_cond false x a b e = same x b e

-- ## The tally

-- three counts make a tally
pub tallies : {a b c a' b' c' : ℕ} → a ≡ a' → b ≡ b' → c ≡ c' → Tallies.tally a b c ≡ Tallies.tally a' b' c'
tallies e f g = cc

-- count by count, and as one equation
pub raised : (c p : ℕ) (t u : Tally) → Raised c p t u → counted u ≡ raise c p (counted t)
unfolding raise
raised c p t u h = tallies h.comparisons h.products h.rounds

-- one step after another
pub raised_then : {c p d q : ℕ} {t u v : Tally} → Raised c p t u → Raised d q u v → Raised (c + d) (p + q) t v
raised_then h k = record { comparisons = omega arith; products = omega arith; rounds = k.rounds ∙ h.rounds }
