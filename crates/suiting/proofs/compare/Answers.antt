-- `suiting::compare` meets its contract. The loop's invariant: the numbers passed are those counted. Assumes nothing.
use mathlib.Core.Path.{◌≡◌, refl, sym, ap}
use mathlib.Core.Bool.{not}
use native.Mathlib.Omega.{arith}
use borrow.Author.Tests.{eq-eqb, ne_eqb}
use Rattle.refusal.specs.Fault.{first_below}
use Rattle.refusal.specs.Number.{fault_at}
use Rattle.refusal.proofs.Faults.{first_more, first_hit, passed_all, fault_refuse, none_refuse}
use Rattle.pool.specs.Tables.{item_in}
use Rattle.suiting.proofs.compare.Goals as goal

pub loop-j-init : goal.loop-j-init
unfolding first_below
loop-j-init c = refl

pub returns-then-suitable-j : goal.returns-then-suitable-j
unfolding fault_at
returns-then-suitable-j c =
    let l = c.loop-j in
    let s = c.args in
    let other : item_in s.suitable.now l.j ≡ item_in s.counts.now l.j → ⊥ = c.if-suitable-j.true in
    sym (first_hit _ _ l.j c.loop-j-test.true l.invariant (fault_refuse 10 0 _ (ap not (ne_eqb _ _ other))))

pub loop-j-preserved : goal.loop-j-preserved
loop-j-preserved c =
    let l = c.loop-j in
    first_more l.j _ l.invariant (none_refuse 10 0 _ (ap not (eq-eqb _ _ c.if-suitable-j.false)))

pub returns : goal.returns
returns c =
    let l = c.loop-j in
    passed_all _ _ l.j (omega arith) l.invariant
