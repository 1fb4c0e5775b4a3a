-- `clearing::all_cleared` meets its contract. The loop's invariant is `Cleared`. Assumes nothing.
use Rattle.clearing.proofs.AllCleared.{Cleared}
use Rattle.clearing.proofs.all_cleared.Given as goal

abbrev pub invariant-loop-i : goal.invariant-loop-i
invariant-loop-i l = Cleared l.n l.initial.weights l.choice l.initial.tally l.weights l.p l.tally l.i
