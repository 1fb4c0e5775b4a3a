-- `shifting::without_row` meets its contract. Assumes nothing.
use mathlib.Core.Path.{◌≡◌, refl, ap, ◌∙◌}
use mathlib.Core.List.{flat_map}
use Prim.Native.Nat.{ℕ, ◌-◌}
use native.Mathlib.Nat.{mul-le-mul}
use native.Mathlib.Omega.{arith}
use Rattle.graph.proofs.Rows.{row_fits}
use Rattle.laws.specs.Below.{table}
use Rattle.laws.specs.Lent.{filled}
use Rattle.shifting.specs.Without.{cross_out}
use Rattle.shifting.proofs.Moves.{moved, few_fit, row_later, row_inside, row_more}
use Rattle.shifting.proofs.without_row.Goals as goal

pub loop-i-init : goal.loop-i-init
unfolding filled table flat_map
loop-i-init g c = refl

pub overflow_mul-place_before : goal.overflow_mul-place_before
overflow_mul-place_before g c =
    let r = row_inside _ _ c.place_before.ensures c.loop-i-test.true in
    few_fit (omega arith) (omega arith)

pub move_row-requires-clause-later : goal.move_row-requires-clause-later
move_row-requires-clause-later g c =
    let e = c.place_before.ensures in
    let r = row_fits (row_inside _ _ e c.loop-i-test.true) in
    record { later = mul-le-mul (row_later _ _ e) (omega arith); inside = omega arith }

pub loop-i-preserved : goal.loop-i-preserved
loop-i-preserved g c = row_more _ _ _ c.requires _ _ _ _ c.loop-i-test.true c.place_before.ensures c.loop-i.invariant c.move_row.ensures

pub returns : goal.returns
unfolding cross_out
returns g c =
    let a = c.args in
    let e : c.loop-i.i ≡ a.n - 1 = omega arith in
    c.loop-i.invariant ∙ ap (λ (k : ℕ). filled (moved a.a a.n a.t.now k) a.t.now) e
