-- `choosing::single` meets its contract. Assumes nothing.
use native.Mathlib.Omega.{arith}
use Rattle.choosing.proofs.Winners.{ranged, number_few, is_single}
use Rattle.choosing.proofs.single.Goals as goal

pub hidden-at-requires : goal.hidden-at-requires
hidden-at-requires c = ranged _ _ _ c.requires

pub known-number-requires : goal.known-number-requires
known-number-requires c = omega (arith, number_few _ _ _ c.requires)

pub next-next-requires : goal.next-next-requires
next-next-requires c = ranged _ _ _ c.requires

pub returns : goal.returns
returns c =
    let number = c in
    is_single _ _ _ number.requires _ _ _ number.known-number.ensures number.hidden-at.ensures _ c.next-next.ensures _
