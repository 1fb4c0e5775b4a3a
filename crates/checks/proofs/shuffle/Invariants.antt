-- `checks::shuffle` meets its contract. The loop's invariant: each number passed stands there once. Assumes nothing.
use Prim.Native.Nat.{ℕ}
use mathlib.Core.Path.{◌≡◌}
use mathlib.Core.Bool.{Bool, false, not}
use mathlib.Core.List.{List}
use lib.Dec.{eqb}
use lib.ListN.{get_or}
use Rattle.laws.specs.Below.{any_below, count_below}
use Rattle.checks.proofs.shuffle.Given as goal

-- does v not stand once among the first n?
abbrev pub missed : List ℕ → ℕ → ℕ → Bool
missed s n v = not (eqb (count_below n (λ j. eqb (get_or s j 0) v)) 1)

abbrev pub invariant-loop-v : goal.invariant-loop-v
invariant-loop-v l = any_below l.v (missed l.s l.n) ≡ false
