-- `validation::weightless_edge` meets its contract. Assumes nothing.
use Rattle.validation.proofs.Faults.{absent, present}
use Rattle.validation.proofs.weightless_edge.Goals as goal

pub returns-then-compatible-ne1 : goal.returns-then-compatible-ne1
returns-then-compatible-ne1 c =
    let at = c.args in
    absent at.n at.m.now at.w.now at.i at.j _ c.compatible.ensures c.if-compatible-ne1.true

pub returns : goal.returns
returns c =
    let at = c.args in
    present at.n at.m.now at.w.now at.i at.j _ c.compatible.ensures c.if-compatible-ne1.false _ c.points.ensures
