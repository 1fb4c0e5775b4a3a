-- `keeping::groups` meets its contract. The loop's invariant: the pairs passed have no fault. Assumes nothing.
use mathlib.Core.Path.{refl, sym}
use native.Mathlib.Omega.{arith}
use Rattle.refusal.specs.Fault.{first_below}
use Rattle.refusal.specs.Number.{fault_at}
use Rattle.refusal.proofs.Faults.{first_more, first_hit, passed_all, sound_none, faulty_fault, handed_on}
use Rattle.keeping.proofs.groups.Goals as goal

pub loop-i-init : goal.loop-i-init
unfolding first_below
loop-i-init c = refl

pub returns-in_err-groups : goal.returns-in_err-groups
unfolding fault_at
returns-in_err-groups c =
    let l = c.loop-i in
    rw (handed_on _ _ c.from_residual.ensures)
    (sym (first_hit _ _ l.i (omega arith) l.invariant (faulty_fault 0 c.groups.result (c.groups.ensures 0) _ c.in_err-groups.was)))

pub loop-i-preserved : goal.loop-i-preserved
loop-i-preserved c =
    let l = c.loop-i in
    first_more l.i _ l.invariant (sound_none 0 c.groups.result (c.groups.ensures 0) c.in_ok-groups.was)

pub returns : goal.returns
returns c =
    let l = c.loop-i in
    passed_all _ _ l.i (omega arith) l.invariant
