-- `cursor::first` meets its contract. Assumes nothing.
use Rattle.cursor.proofs.Order.{first_none, first_some}
use Rattle.cursor.proofs.first.Goals as goal

pub returns-then-n-lt2 : goal.returns-then-n-lt2
returns-then-n-lt2 c = first_none _ c.if-n-lt2.true

pub returns-else-n-lt2 : goal.returns-else-n-lt2
returns-else-n-lt2 c = first_some _ c.if-n-lt2.false
