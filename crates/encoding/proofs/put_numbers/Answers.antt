-- `encoding::put_numbers` meets its contract. The invariant: j numbers of two bytes are written from `at` on. Assumes nothing.
use native.Mathlib.Omega.{arith}
use Rattle.laws.specs.Digits.{bytes}
use Rattle.laws.proofs.Digits.{length-bytes}
use Rattle.laws.proofs.Lent.{pieces_none, pieces_more}
use Rattle.encoding.proofs.put_numbers.Goals as goal

pub loop-j-init : goal.loop-j-init
loop-j-init c = pieces_none _ (bytes 2) _ _

pub loop-j-preserved : goal.loop-j-preserved
loop-j-preserved c =
    pieces_more _ (bytes 2) _ _ 2 _ _ _ (length-bytes 2) (omega arith) c.loop-j.invariant (rw (← c.from.ensures) c.put.ensures) c.put.auto.out
