-- `resolution::resolve` meets its contract. Assumes nothing.
use native.Mathlib.Omega.{arith}
use Rattle.resolution.proofs.AllResolved.{begins, ends, asks_one, again}
use Rattle.resolution.proofs.resolve.Goals as goal

pub loop-choice-init : goal.loop-choice-init
loop-choice-init c = begins _ _ _ _ _ _ _ c.requires _ _ _ c.alone.ensures c.alone-2.ensures c.none-resolved.ensures

pub resolve_one-resolved-requires : goal.resolve_one-resolved-requires
resolve_one-resolved-requires c = asks_one _ _ _ _ _ _ _ c.requires _ _ _ _ c.loop-choice.invariant c.loop-choice-test.true

pub loop-choice-preserved : goal.loop-choice-preserved
loop-choice-preserved c =
    again _ _ _ _ _ _ _ c.requires _ _ _ _ c.loop-choice.invariant c.loop-choice-test.true (λ i. omega (arith, c.type_inv.w i)) _ _ _
    c.resolve_one-resolved.ensures

pub returns : goal.returns
returns c = ends _ _ _ _ _ _ _ c.requires _ _ _ _ c.loop-choice.invariant c.loop-choice-test.false
