-- `points::judge` meets its contract: its tests, one after another, are those of 14. Assumes nothing.
use mathlib.Core.Path.{◌≡◌}
use Prim.Native.Nat.{ℕ, ◌+◌, max}
use borrow.Author.Tests.{eq-eqb, ne_eqb, lt-ltb, le-ltb}
use Rattle.laws.specs.Below.{either}
use Rattle.refusal.specs.Fault.{refuse}
use Rattle.refusal.specs.Number.{fault_at}
use Rattle.pool.specs.Points.{heaviest}
use Rattle.pool.specs.Faults.{points_fault}
use Rattle.points.specs.Named.{named}
use Rattle.points.specs.declared.Points.{Points}
use Rattle.points.proofs.judge.Goals as goal

-- the largest and the larger, as the code finds them
summed : (q : Points) (x y z : ℕ) → x ≡ max q.few q.some → y ≡ max q.none x → z ≡ max q.equal q.young_to_senior
    → heaviest (named q) ≡ q.base + y + z
unfolding heaviest
summed q x y z e f g = rw (f, e, g)

pub returns-then-points-eq0 : goal.returns-then-points-eq0
unfolding fault_at points_fault refuse either
returns-then-points-eq0 c o = rw (eq-eqb _ _ c.if-points-eq0.true)

pub returns-then-points-mismatch-gt65535 : goal.returns-then-points-mismatch-gt65535
unfolding fault_at points_fault refuse either
returns-then-points-mismatch-gt65535 c o =
    let e = summed c.args.points _ _ _ c.max.ensures c.max-mismatch.ensures c.max-age.ensures in
    rw (ne_eqb _ _ c.if-points-eq0.false, e, lt-ltb 65535 _ c.if-points-mismatch-gt65535.true)

pub returns : goal.returns
unfolding fault_at points_fault refuse either
returns c o =
    let e = summed c.args.points _ _ _ c.max.ensures c.max-mismatch.ensures c.max-age.ensures in
    rw (ne_eqb _ _ c.if-points-eq0.false, e, le-ltb 65535 _ c.if-points-mismatch-gt65535.false)
