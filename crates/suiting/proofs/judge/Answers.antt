-- `suiting::judge` meets its contract. Assumes nothing.
use mathlib.Core.Path.{◌∙◌}
use Rattle.suiting.proofs.Counting.{is_compared}
use Rattle.suiting.proofs.judge.Goals as goal

pub returns : goal.returns
returns c = c.compare.ensures ∙ is_compared _ _ _ _ _ c.count.ensures
