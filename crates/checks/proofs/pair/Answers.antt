-- `checks::pair` meets its contract. Assumes nothing.
use Rattle.refusal.proofs.Faults.{handed_on}
use Rattle.checks.proofs.Found.{pair_group, pair_again, pair_sound}
use Rattle.checks.proofs.pair.Goals as goal

pub returns-in_err-groups : goal.returns-in_err-groups
returns-in_err-groups c o p a =
    let g = c.groups in
    rw (handed_on _ _ c.from_residual.ensures) (pair_group o p _ _ _ _ _ _ a g.result (g.ensures o) _ c.in_err-groups.was)

pub returns-then-among : goal.returns-then-among
returns-then-among c o p a =
    let d = c in
    let g = d.groups in
    let r = c.among in
    pair_again o p _ _ _ _ _ _ a g.result (g.ensures o) d.in_ok-groups.was r.result r.ensures c.if-among.true

pub returns-else-among : goal.returns-else-among
returns-else-among c o p a =
    let d = c in
    let g = d.groups in
    let r = c.among in
    pair_sound o p _ _ _ _ _ _ a g.result (g.ensures o) d.in_ok-groups.was r.result r.ensures c.if-among.false
