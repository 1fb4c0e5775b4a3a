-- `checks::times` meets its contract. The loop's invariant: `count` is how often v stands among the numbers passed. Assumes nothing.
use Prim.Native.Nat.{ℕ, ◌≤◌}
use mathlib.Core.Path.{◌≡◌}
use mathlib.Core.Bool.{Bool}
use mathlib.Core.List.{List}
use lib.Dec.{eqb}
use lib.ListN.{get_or}
use Rattle.laws.specs.Below.{count_below}
use Rattle.checks.proofs.times.Given as goal

-- does v stand at k?
abbrev pub hit : List ℕ → ℕ → ℕ → Bool
hit s v k = eqb (get_or s k 0) v

abbrev pub invariant-loop-j : goal.invariant-loop-j
invariant-loop-j l = (l.count ≤ l.j) × (l.count ≡ count_below l.j (hit l.s l.v))
