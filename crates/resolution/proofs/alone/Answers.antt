-- `resolution::alone` meets its contract. Assumes nothing.
use mathlib.Core.Path.{refl, ◌∙◌}
use native.Mathlib.Omega.{arith}
use Rattle.laws.proofs.Below.{length-table}
use Rattle.laws.proofs.Lent.{filling_none, filling_more, filling_all}
use Rattle.laws.proofs.Whole.{filled_whole}
use Rattle.resolution.proofs.alone.Goals as goal

pub loop-partner-init : goal.loop-partner-init
loop-partner-init c = filling_none _ _

pub loop-partner-preserved : goal.loop-partner-preserved
loop-partner-preserved c = filling_more _ _ _ _ _ c.loop-partner.invariant refl (omega arith)

pub returns : goal.returns
returns c =
    let old = c.args.partners.now in
    filling_all _ _ _ old _ c.loop-partner.invariant (omega arith) ∙ filled_whole _ old (length-table _ _)
