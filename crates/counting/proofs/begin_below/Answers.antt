-- `counting::begin_below` meets its contract. Assumes nothing.
use Prim.Native.Nat.{◌-◌}
use native.Mathlib.Omega.{arith}
use Rattle.counting.proofs.Sized.{more_among}
use Rattle.counting.proofs.begin_below.Goals as goal

pub overflow_sub-result : goal.overflow_sub-result
overflow_sub-result c =
    let start = c in
    omega (arith, c.of_size.ensures, c.of_size-2.ensures, more_among start.args.size (start.args.n - start.args.p) start.args.n start.requires.1 start.requires.2 (omega arith))

pub returns : goal.returns
returns c = omega (arith, c.of_size.ensures, c.of_size-2.ensures, overflow_sub-result c)
