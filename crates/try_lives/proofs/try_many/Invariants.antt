use Prim.Native.Nat.{◌≤◌}
use Rattle.try_lives.proofs.try_many.Given as goal

abbrev pub invariant-loop-i : goal.invariant-loop-i
invariant-loop-i g l = l.done ≤ l.i
