-- `keeping::rows` meets its contract. Assumes nothing.
use Rattle.keeping.proofs.Found.{rows_compatibilities, rows_weights, rows_sound}
use Rattle.keeping.proofs.rows.Goals as goal

pub returns-then-compatibilities-entries : goal.returns-then-compatibilities-entries
returns-then-compatibilities-entries c = rows_compatibilities _ _ _ c.if-compatibilities-entries.true

pub returns-then-weights-entries : goal.returns-then-weights-entries
returns-then-weights-entries c = rows_weights _ _ _ c.if-compatibilities-entries.false c.if-weights-entries.true

pub returns : goal.returns
returns c = rows_sound _ _ _ c.if-compatibilities-entries.false c.if-weights-entries.false
