-- `gates::begin_round` meets its contract. Assumes nothing.
use borrow.Author.Rules.{rules}
use Rattle.greedy.specs.Tally.{next_round}
use Rattle.gates.proofs.begin_round.Goals as goal

pub returns : goal.returns
unfolding next_round
returns c = search rules
