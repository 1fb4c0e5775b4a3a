-- `scan::points_field` meets its contract. Assumes nothing.
use mathlib.Core.Path.{◌≡◌, sym, ap, ◌∙◌}
use mathlib.Core.List.{List}
use Prim.Native.Nat.{ℕ}
use borrow.Author.Rules.{rules}
use Rattle.laws.specs.Below.{table}
use Rattle.laws.specs.Lent.{filled}
use Rattle.laws.proofs.Lent.{filled_at}
use Rattle.refusal.specs.Fault.{only}
use Rattle.refusal.specs.Number.{fault_at}
use Rattle.refusal.proofs.Faults.{sound_none, sound_then, faulty_then, handed_on}
use Rattle.pool.specs.Points.{registry_points, has_points, points_by}
use Rattle.pool.specs.Sheet.{points_place, version_in, point_at}
use Rattle.pool.specs.Tables.{item_in}
use Rattle.pool.specs.Faults.{points_fault, points_field_fault}
use Rattle.pool.proofs.Fields.{field_passed}
use Rattle.pool.proofs.Points.{points_by_cong}
use Rattle.scan.proofs.points_field.Goals as goal

-- the table that is filled has the sheet's points
points_read : (b old new : List ℕ) → new ≡ filled (table registry_points (point_at b)) old → points_by (item_in new) ≡ points_by (point_at b)
points_read b old new e = points_by_cong (item_in new) (point_at b) (filled_at registry_points (point_at b) old new e)

pub returns-then-not-has_points : goal.returns-then-not-has_points
unfolding fault_at points_field_fault only
returns-then-not-has_points c =
    let tested : has_points (version_in c.args.b.now) ≡ c.has_points.result =
    ap has_points (sym c.requires) ∙ sym c.has_points.ensures in
    rw (tested ∙ c.if-not-has_points.true)

pub returns-in_err-field : goal.returns-in_err-field
unfolding fault_at points_field_fault only
returns-in_err-field c =
    let tested : has_points (version_in c.args.b.now) ≡ c.has_points.result =
    ap has_points (sym c.requires) ∙ sym c.has_points.ensures in
    rw (tested ∙ c.if-not-has_points.false, handed_on _ _ c.from_residual.ensures) (faulty_then _ _ _ _ c.field.ensures _ c.in_err-field.was)

pub fill_numbers-requires : goal.fill_numbers-requires
fill_numbers-requires c =
    let w = field_passed _ _ _ _ (sound_none _ _ c.field.ensures c.in_ok-field.was) in
    (search rules, w.whole, search rules)

pub returns : goal.returns
unfolding points_field_fault only
returns c =
    let tested : has_points (version_in c.args.b.now) ≡ c.has_points.result =
    ap has_points (sym c.requires) ∙ sym c.has_points.ensures in
    rw (tested ∙ c.if-not-has_points.false)
    (sound_then _ _ _ _ c.field.ensures c.in_ok-field.was
    (c.judge.ensures _ ∙ ap (points_fault points_place) (c.own.ensures ∙ points_read _ _ _ c.fill_numbers.ensures)))
