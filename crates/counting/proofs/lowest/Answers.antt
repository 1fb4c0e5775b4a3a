-- `counting::lowest` meets its contract: the loop doesn't run out of places, since fewer than k + 1 would begin below them all. Assumes nothing.
use Prim.Native.Nat.{◌-◌}
use mathlib.Core.Path.{◌≡◌, ap}
use native.Mathlib.Omega.{arith}
use Rattle.counting.specs.Counting.{of_size}
use Rattle.counting.proofs.Sized.{none_among}
use Rattle.counting.proofs.lowest.Goals as goal

pub returns : goal.returns
returns c =
    let e : c.args.n - c.loop-i.i ≡ 0 = omega arith in
    absurd (omega (arith, none_among c.args.size, ap (of_size c.args.size) e))
