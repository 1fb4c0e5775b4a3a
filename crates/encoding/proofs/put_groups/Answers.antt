-- `encoding::put_groups` meets its contract: each byte goes where the one before it ends. Assumes nothing.
use mathlib.Core.Path.{refl}
use native.Mathlib.Omega.{arith}
use Rattle.laws.specs.Digits.{bytes}
use Rattle.laws.proofs.Lent.{stored_then}
use Rattle.encoding.specs.PairValue.{group_bytes}
use Rattle.encoding.proofs.put_groups.Goals as goal

pub returns : goal.returns
unfolding group_bytes bytes
returns c =
    stored_then c.args.at 3 _ _ _ _ _ refl (omega (arith, c.requires))
    (stored_then c.args.at 2 _ _ _ _ _ refl (omega (arith, c.requires))
    (stored_then c.args.at 1 _ _ _ _ _ refl (omega (arith, c.requires))
    (rw c.from.ensures at c.put.ensures) (rw c.from-2.ensures at c.put-2.ensures))
    (rw c.from-3.ensures at c.put-3.ensures))
    (rw c.from-4.ensures at c.put-4.ensures)
