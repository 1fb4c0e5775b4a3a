-- `encoding::put_head` meets its contract: each piece goes where the one before it ends. Assumes nothing.
use mathlib.Core.Path.{refl}
use native.Mathlib.Omega.{arith}
use Rattle.laws.specs.Digits.{bytes}
use Rattle.pool.specs.Sheet.{field, head_field, version_place, pairs_place}
use Rattle.laws.proofs.Lent.{stored_then}
use Rattle.encoding.proofs.put_head.Goals as goal

pub returns : goal.returns
unfolding head_field field bytes
returns c =
    stored_then 0 pairs_place _ _ _ _ _ refl (omega (arith, c.requires))
    (stored_then 0 version_place _ _ _ _ _ refl (omega (arith, c.requires)) c.put_start.ensures c.put.ensures)
    c.put-2.ensures
