-- `counting::triples` meets its contract, by the rule of the table. Assumes nothing.
use Rattle.counting.proofs.Rule.{entry_is}
use Rattle.counting.proofs.triples.Goals as goal

pub returns : goal.returns
returns c = let start = c in (start.requires.0.rule _ start.requires.1, entry_is _ start.requires.0 _ start.requires.1)
