-- `evaluation::edge` meets its contract. Assumes nothing.
use Prim.Native.Nat.{◌+◌, ◌*◌}
use native.Mathlib.Omega.{arith}
use Rattle.exchange.specs.Subsets.{entry}
use Rattle.evaluation.proofs.edge.Goals as goal

pub returns : goal.returns
unfolding entry
returns c = (
  record { m = c.load.ensures 0; w = c.load-2.ensures 0 },
  record {
    zero_or_one = omega (arith, c.load.ensures 0, c.requires.0.zero_or_one c.args.i c.args.j c.requires.1 c.requires.2);
    sixteen = omega (arith, c.load-2.ensures 0, c.type_inv.w (c.args.i * c.args.n + c.args.j));
  },
)
