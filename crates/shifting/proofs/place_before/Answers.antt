-- `shifting::place_before` meets its contract. Assumes nothing.
use mathlib.Core.Path.{sym}
use Rattle.live.proofs.Tables.{up_before, up_from}
use Rattle.shifting.proofs.place_before.Goals as goal

pub returns-then-i-a : goal.returns-then-i-a
returns-then-i-a c = sym (up_before _ _ c.if-i-a.true)

pub returns-else-i-a : goal.returns-else-i-a
returns-else-i-a c = sym (up_from _ _ c.if-i-a.false)
