-- `joining::differ` meets its contract. The loop's invariant: none of the points passed differs. Assumes nothing.
use Prim.Native.Nat.{◌*◌, ◌≤◌}
use mathlib.Core.Path.{◌≡◌}
use mathlib.Core.Bool.{false}
use Rattle.laws.specs.Below.{any_below}
use Rattle.joining.proofs.Judged.{differs_at}
use Rattle.joining.proofs.differ.Given as goal

abbrev pub invariant-loop-k : goal.invariant-loop-k
invariant-loop-k l = (2 * l.count ≤ 15) × (any_below l.k (differs_at l.first l.second) ≡ false)
