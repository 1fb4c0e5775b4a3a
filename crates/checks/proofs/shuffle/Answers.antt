-- `checks::shuffle` meets its contract. The loop's invariant: each number passed stands there once. Assumes nothing.
use Prim.Native.Nat.{ℕ}
use mathlib.Core.Path.{◌≡◌, refl, sym, ap, ◌∙◌}
use mathlib.Core.Bool.{not}
use native.Mathlib.Omega.{arith}
use borrow.Author.Tests.{eq-eqb, ne_eqb}
use Rattle.laws.specs.Below.{any_below}
use Rattle.laws.proofs.Below.{any_hit, any_more}
use Rattle.refusal.specs.Number.{fault_at}
use Rattle.refusal.proofs.Faults.{fault_refuse, none_refuse}
use Rattle.pool.specs.Faults.{shuffle_fault}
use Rattle.checks.proofs.shuffle.Invariants.{missed}
use Rattle.checks.proofs.shuffle.Goals as goal

pub returns-then-times-ne1 : goal.returns-then-times-ne1
unfolding fault_at shuffle_fault
returns-then-times-ne1 c o =
    let a = c.args in
    let h : missed a.s.now a.n c.loop-v.v ≡ _ = ap not (ne_eqb _ 1 (λ e. c.if-times-ne1.true (c.times.ensures ∙ e))) in
    sym (fault_refuse 8 o _ (any_hit a.n (missed a.s.now a.n) c.loop-v.v (omega arith) h))

pub loop-v-preserved : goal.loop-v-preserved
loop-v-preserved c =
    any_more c.loop-v.v (missed c.args.s.now c.args.n) c.loop-v.invariant (ap not (eq-eqb _ 1 (sym c.times.ensures ∙ c.if-times-ne1.false)))

pub loop-v-init : goal.loop-v-init
unfolding any_below
loop-v-init c = refl

pub returns : goal.returns
unfolding fault_at shuffle_fault
returns c o =
    let e : c.args.n ≡ c.loop-v.v = omega arith in
    sym (none_refuse 8 o _ (ap (λ (k : ℕ). any_below k (missed c.args.s.now c.args.n)) e ∙ c.loop-v.invariant))
