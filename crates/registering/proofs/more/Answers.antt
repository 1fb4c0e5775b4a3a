-- `registering::more` meets its contract. Assumes nothing.
use Rattle.registering.proofs.Judged.{more_full, more_short, more_rows}
use Rattle.registering.proofs.more.Goals as goal

pub returns-then-n-eq200 : goal.returns-then-n-eq200
returns-then-n-eq200 c = more_full _ _ _ _ c.if-n-eq200.true

pub returns-then-space-n : goal.returns-then-space-n
returns-then-space-n c = more_short _ _ _ _ c.if-n-eq200.false c.if-space-n.true

pub returns : goal.returns
returns c = more_rows _ _ _ _ c.if-n-eq200.false c.if-space-n.false c.rows.result c.rows.ensures
