-- `encoding::put_tissue` meets its contract: each number goes where the one before it ends. Assumes nothing.
use mathlib.Core.Path.{refl}
use native.Mathlib.Omega.{arith}
use Rattle.laws.specs.Digits.{bytes}
use Rattle.laws.proofs.Lent.{stored_then}
use Rattle.encoding.specs.PairValue.{tissue_bytes}
use Rattle.encoding.proofs.put_tissue.Goals as goal

pub returns : goal.returns
unfolding tissue_bytes bytes
returns c =
    stored_then c.args.at 16 _ _ _ _ _ refl (omega (arith, c.requires))
    (stored_then c.args.at 8 _ _ _ _ _ refl (omega (arith, c.requires)) c.put.ensures c.put-2.ensures)
    c.put-3.ensures
