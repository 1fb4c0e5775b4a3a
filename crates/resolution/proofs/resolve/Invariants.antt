-- `resolution::resolve` meets its contract. The loop's invariant is `BeforeChoice`. Assumes nothing.
use Rattle.resolution.proofs.AllResolved.{BeforeChoice}
use Rattle.resolution.proofs.resolve.Given as goal

abbrev pub invariant-loop-choice : goal.invariant-loop-choice
invariant-loop-choice l = BeforeChoice l.n l.m l.w l.s l.choices l.donors l.recipients l.resolved l.choice-index
