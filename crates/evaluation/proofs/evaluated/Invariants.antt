-- `evaluation::evaluated` meets its contract. The loop's invariant is `Evaluated`. Assumes nothing.
use Rattle.evaluation.proofs.AllWeights.{Evaluated}
use Rattle.evaluation.proofs.evaluated.Given as goal

abbrev pub invariant-loop-i : goal.invariant-loop-i
invariant-loop-i l = Evaluated l.n l.m l.w l.s l.initial.weights l.initial.tally l.weights l.p l.tally l.i
