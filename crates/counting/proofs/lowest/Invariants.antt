-- `counting::lowest` meets its contract. The loop's invariant: no more than k begin below place i. Assumes nothing.
use Prim.Native.Nat.{◌+◌, ◌-◌, ◌≤◌}
use Rattle.counting.specs.Counting.{of_size}
use Rattle.counting.proofs.lowest.Given as goal

abbrev pub invariant-loop-i : goal.invariant-loop-i
invariant-loop-i l = of_size l.size l.n ≤ l.k + of_size l.size (l.n - l.i)
