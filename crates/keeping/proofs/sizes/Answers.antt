-- `keeping::sizes` meets its contract. Assumes nothing.
use mathlib.Core.Path.{refl}
use Rattle.refusal.proofs.Faults.{handed_on}
use Rattle.keeping.proofs.Found.{sizes_many, sizes_tables, sizes_rows}
use Rattle.keeping.proofs.sizes.Goals as goal

pub returns-then-n-gt200 : goal.returns-then-n-gt200
returns-then-n-gt200 c = sizes_many _ _ _ _ _ c.if-n-gt200.true

pub returns-in_err-tables : goal.returns-in_err-tables
returns-in_err-tables c =
    rw (handed_on _ _ c.from_residual.ensures)
    (sizes_tables _ _ _ _ _ c.if-n-gt200.false c.tables.result (c.tables.ensures _ refl) _ c.in_err-tables.was)

pub returns : goal.returns
returns c =
    sizes_rows _ _ _ _ _ c.if-n-gt200.false c.tables.result (c.tables.ensures _ refl) c.in_ok-tables.was c.rows.result c.rows.ensures
