-- `checks::times` meets its contract. The loop's invariant: `count` is how often v stands among the numbers passed. Assumes nothing.
use Prim.Native.Nat.{ℕ}
use mathlib.Core.Path.{◌≡◌, refl, ap, ◌∙◌}
use native.Mathlib.Omega.{arith}
use borrow.Author.Tests.{eq-eqb, ne_eqb}
use Rattle.laws.specs.Below.{count_below}
use Rattle.laws.proofs.Below.{count_hit, count_miss}
use Rattle.checks.proofs.times.Invariants.{hit}
use Rattle.checks.proofs.times.Goals as goal
use Rattle.checks.proofs.times.Goals.{then-s-j, else-s-j}

pub loop-j-init : goal.loop-j-init
unfolding count_below
loop-j-init c = (omega arith, refl)

pub loop-j-preserved : goal.loop-j-preserved
loop-j-preserved c =
    let l = c.loop-j in
    let h = hit c.args.s.now c.args.v in
    elim c.if-s-j.branch [
      | then-s-j w ↦ (omega arith, w.count-is ∙ count_hit l.j h l.count (eq-eqb _ _ w.if-s-j.true) l.invariant.1)
      | else-s-j w ↦ (omega arith, w.count-is ∙ count_miss l.j h l.count (ne_eqb _ _ w.if-s-j.false) l.invariant.1)
    ]

pub returns : goal.returns
returns c =
    let e : c.loop-j.j ≡ c.args.n = omega arith in
    c.loop-j.invariant.1 ∙ ap (λ (k : ℕ). count_below k (hit c.args.s.now c.args.v)) e
