-- `columns::fill` meets its contract. The loop's invariant: the table is filled to i. Assumes nothing.
use Prim.Native.Nat.{◌+◌, ◌*◌}
use native.Mathlib.Omega.{arith}
use Rattle.laws.proofs.Digits.{big_endian_lt}
use Rattle.laws.proofs.Lent.{filling_none, filling_more, filling_all}
use Rattle.columns.proofs.fill.Goals as goal

pub loop-i-init : goal.loop-i-init
loop-i-init g c = filling_none _ _

pub from_number-requires : goal.from_number-requires
from_number-requires g c =
    rw (c.number.ensures, c.BYTES.ensures) (big_endian_lt c.args.b.now (c.args.first + c.args.apart * c.loop-i.i) g.T.Entry.BYTES (λ j. (c.type_inv.b j).fits))

pub loop-i-preserved : goal.loop-i-preserved
loop-i-preserved g c =
    filling_more _ _ _ _ _ c.loop-i.invariant (rw (c.from_number.ensures, c.number.ensures, c.BYTES.ensures)) (omega arith)

pub returns : goal.returns
returns g c = filling_all _ _ _ _ _ c.loop-i.invariant (omega arith)
