-- `encoding::put_start` meets its contract: the length goes where the tag ends. Assumes nothing.
use mathlib.Core.Path.{refl}
use native.Mathlib.Omega.{arith}
use Rattle.laws.specs.Digits.{bytes}
use Rattle.laws.proofs.Lent.{stored_then}
use Rattle.encoding.proofs.put_start.Goals as goal

pub returns : goal.returns
unfolding bytes
returns c =
    stored_then c.args.at 1 _ _ _ _ _ refl (omega (arith, c.requires)) c.put.ensures c.put-2.ensures
