-- `evaluation::three` meets its contract. Assumes nothing.
use mathlib.Core.Path.{sym, ◌∙◌}
use Rattle.gates.proofs.Gates.{raised_then}
use Rattle.evaluation.proofs.Cycles.{three_is}
use Rattle.evaluation.proofs.three.Goals as goal

pub returns : goal.returns
returns c =
    let all = c in
    let both = all in
    let a = both.args in (
      c.product.ensures.0
          ∙ (rw (all.product-there.ensures.0, both.product-two.ensures.0, c.sum-sum.ensures, c.sum.ensures)
          (sym (three_is a.ab a.bc a.ca))),
      raised_then (raised_then both.product-two.ensures.1 all.product-there.ensures.1) c.product.ensures.1,
    )
