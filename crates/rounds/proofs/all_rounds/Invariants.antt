-- The loop's invariant is `BeforeRound`: the choices made so far, before what the rounds left make, are what all rounds make. Assumes nothing.
use Rattle.rounds.proofs.Turns.{BeforeRound}
use Rattle.rounds.proofs.all_rounds.Given as goal

abbrev pub invariant-loop-k : goal.invariant-loop-k
invariant-loop-k l = BeforeRound l.n l.floor l.initial.weights l.initial.choices l.initial.tally l.weights l.choices l.tally l.k
