-- `checks::ready` meets its contract. Assumes nothing.
use mathlib.Core.Path.{refl, sym, ◌∙◌}
use Rattle.refusal.proofs.Faults.{sound_none, handed_on}
use Rattle.pool.proofs.Reading.{tables_passed}
use Rattle.checks.proofs.Found.{before_version, before_many, before_tables, before_points}
use Rattle.checks.proofs.ready.Goals as goal

pub returns-then-not-known : goal.returns-then-not-known
returns-then-not-known c = before_version _ _ _ _ (sym c.known.ensures ∙ c.if-not-known.true)

pub returns-then-n-gt200 : goal.returns-then-n-gt200
returns-then-n-gt200 c = before_many _ _ _ _ (sym c.known.ensures ∙ c.if-not-known.false) c.if-n-gt200.true

pub judge_points-requires : goal.judge_points-requires
judge_points-requires c =
    let d = c in
    let s = d in
    (tables_passed _ _ _ s.args.points.now (sound_none 0 d.tables.result (d.tables.ensures _ refl) c.in_ok-tables.was)).1

pub returns-in_err-tables : goal.returns-in_err-tables
returns-in_err-tables c =
    let d = c in
    let few = d in
    rw (handed_on _ _ c.from_residual.ensures)
    (before_tables _ _ _ _ (sym few.known.ensures ∙ few.if-not-known.false) few.if-n-gt200.false d.tables.result
    (d.tables.ensures _ refl) _ c.in_err-tables.was)

pub returns : goal.returns
returns c =
    let told = c in
    let d = told in
    let few = d in
    before_points _ _ _ _ (sym few.known.ensures ∙ few.if-not-known.false) few.if-n-gt200.false d.tables.result
    (d.tables.ensures _ refl) told.in_ok-tables.was c.judge_points.result (c.judge_points.ensures 0)
