-- `clearing::weight_after` meets its contract. Assumes nothing.
use native.Mathlib.Omega.{arith}
use mathlib.Core.Path.{◌∙◌}
use Rattle.gates.specs.Secrets.{value_of}
use Rattle.gates.proofs.Gates.{raised, raised_then}
use Rattle.cursor.specs.Cursor.{shown}
use Rattle.clearing.proofs.Kept.{two_cleared, triple_cleared, tally_two, tally_triple}
use Rattle.clearing.proofs.weight_after.Goals as goal

pub returns-then-p-n : goal.returns-then-p-n
returns-then-p-n c =
    let a = c.args in (
      two_cleared a.n (value_of a.x) a.p (shown a.choice) c.requires.0 (omega arith) _ c.demux_readout.ensures _ c.product-first.ensures.0 _
          c.demux_readout-2.ensures c.if-p-n.true _ c.product-second.ensures.0,
      raised 0 2 _ _ (raised_then c.product-first.ensures.1 c.product-second.ensures.1) ∙ tally_two _ _ c.requires.0 _ c.if-p-n.true,
    )

pub returns : goal.returns
returns c =
    let a = c.args in (
      triple_cleared a.n (value_of a.x) a.p (shown a.choice) c.requires.0 (omega arith) _ c.demux_readout.ensures _ c.product-first.ensures.0 _
          c.demux_readout-2.ensures _ c.product-second.ensures.0 _ c.demux_readout-3.ensures
          c.if-p-n.false _ c.product.ensures.0,
      raised 0 3 _ _ (raised_then (raised_then c.product-first.ensures.1 c.product-second.ensures.1) c.product.ensures.1)
          ∙ tally_triple _ _ c.requires.0 _ c.if-p-n.false,
    )
