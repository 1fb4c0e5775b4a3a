-- `joining::shared` meets its contract. The loop's invariant: none of the second's pairs passed has an id of the first's. Assumes nothing.
use Prim.Native.Nat.{ℕ}
use mathlib.Core.Path.{◌≡◌}
use mathlib.Core.Bool.{Bool, false}
use mathlib.Core.List.{List}
use lib.Dec.{eqb}
use Rattle.laws.specs.Below.{any_below}
use Rattle.pool.specs.Sheet.{pair_at}
use Rattle.joining.proofs.shared.Given as goal

-- has pair j of the second an id of the first's?
abbrev pub again : List ℕ → ℕ → List ℕ → ℕ → Bool
again a n b j = any_below n (λ i. eqb (pair_at a i).id (pair_at b j).id)

abbrev pub invariant-loop-j : goal.invariant-loop-j
invariant-loop-j l = (any_below l.j (again l.first l.n l.second) ≡ false)
