-- `gates::comparison` meets its contract. Assumes nothing.
use borrow.Author.Rules.{rules}
use Rattle.laws.specs.Below.{one}
use Rattle.gates.proofs.comparison.Goals as goal

pub returns : goal.returns
unfolding one
returns c = search rules
