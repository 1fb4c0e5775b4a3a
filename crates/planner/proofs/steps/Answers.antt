-- `planner::steps` meets its contract: evaluation, then all rounds, with one tally. Assumes nothing.
use Rattle.planner.proofs.Stepped.{asks_rounds, stepped}
use Rattle.planner.proofs.steps.Goals as goal

pub all_rounds-requires : goal.all_rounds-requires
all_rounds-requires c = asks_rounds _ _ _ _ _ _ _ c.requires _ c.nothing_done-tally.ensures _ _ c.evaluate.ensures

pub returns : goal.returns
returns c = stepped _ _ _ _ _ _ _ c.requires _ c.nothing_done-tally.ensures _ _ c.evaluate.ensures _ c.all_rounds.ensures
