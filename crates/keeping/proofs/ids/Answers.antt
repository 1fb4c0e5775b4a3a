-- `keeping::ids` meets its contract. The loop's invariant: the ids passed have no fault. Assumes nothing.
use mathlib.Core.Path.{refl, sym, ◌∙◌}
use native.Mathlib.Omega.{arith}
use Rattle.refusal.specs.Fault.{first_below}
use Rattle.refusal.specs.Number.{fault_at}
use Rattle.refusal.proofs.Faults.{first_more, first_hit, passed_all, fault_refuse, none_refuse}
use Rattle.pool.specs.Faults.{id_fault}
use Rattle.keeping.proofs.ids.Goals as goal

pub loop-i-init : goal.loop-i-init
unfolding first_below
loop-i-init c = refl

pub returns-then-among : goal.returns-then-among
unfolding fault_at id_fault
returns-then-among c =
    let l = c.loop-i in
    sym (first_hit _ _ l.i (omega arith) l.invariant (fault_refuse 7 0 _ (sym c.among.ensures ∙ c.if-among.true)))

pub loop-i-preserved : goal.loop-i-preserved
unfolding id_fault
loop-i-preserved c =
    let l = c.loop-i in
    first_more l.i _ l.invariant (none_refuse 7 0 _ (sym c.among.ensures ∙ c.if-among.false))

pub returns : goal.returns
returns c =
    let l = c.loop-i in
    passed_all _ _ l.i (omega arith) l.invariant
