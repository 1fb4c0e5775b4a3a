-- `evaluation::two` meets its contract. Assumes nothing.
use mathlib.Core.Path.{sym, ◌∙◌}
use Rattle.gates.proofs.Gates.{raised_then}
use Rattle.evaluation.proofs.Cycles.{two_is}
use Rattle.evaluation.proofs.two.Goals as goal

pub returns : goal.returns
returns c =
    let after-product = c in
    let a = after-product.args in (
      c.product.ensures.0 ∙ (rw (after-product.product-there.ensures.0, c.sum-sum.ensures) (sym (two_is a.ab a.ba))),
      raised_then after-product.product-there.ensures.1 c.product.ensures.1,
    )
