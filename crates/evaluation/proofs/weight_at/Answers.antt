-- `evaluation::weight_at` meets its contract. Assumes nothing.
use mathlib.Core.Path.{◌∙◌}
use Rattle.gates.proofs.Gates.{raised}
use Rattle.evaluation.proofs.Subsets.{is_two, is_triple, tally_two, tally_triple}
use Rattle.evaluation.proofs.weight_at.Goals as goal

pub returns-then-x-n : goal.returns-then-x-n
returns-then-x-n c =
    let back = c in
    let pre = back.requires in
    let taken = c.if-x-n.true in (
      c.two.ensures.0 ∙ is_two _ _ _ _ _ pre.0 pre.1 pre.2 taken _ _ back.edge-ab.ensures.0 back.edge-ba.ensures.0,
      raised 0 2 _ _ c.two.ensures.1 ∙ tally_two _ _ pre.2 _ taken,
    )

pub returns : goal.returns
returns c =
    let ac = c in
    let bc = ac in
    let left = bc.if-x-n.false in
    let back = bc in
    let pre = back.requires in (
      c.triple.ensures.0
          ∙ is_triple _ _ _ _ _ pre.0 pre.1 pre.2 left _ _ _ _ _ _ back.edge-ab.ensures.0 bc.edge-bc.ensures.0 ac.edge-ca.ensures.0
          ac.edge-ac.ensures.0 c.edge-cb.ensures.0 back.edge-ba.ensures.0,
      raised 1 7 _ _ c.triple.ensures.1 ∙ tally_triple _ _ pre.2 _ left,
    )
