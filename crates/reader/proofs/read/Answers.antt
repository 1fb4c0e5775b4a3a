-- `reader::read` meets its contract. Assumes nothing.
use mathlib.Core.Path.{refl, sym}
use Rattle.fields.specs.Lent.{tables_in}
use Rattle.refusal.proofs.Faults.{handed_on}
use Rattle.reader.proofs.Answered.{refused_leaves, fillable, rightly, finished_rightly}
use Rattle.reader.proofs.read.Goals as goal

pub fill-requires : goal.fill-requires
fill-requires c =
    let answers = c.judge.ensures (tables_in c.args.tables.now) (sym c.room.ensures) refl in
    fillable _ _ _ answers _ c.in_ok-head.was

pub returns-in_err-head-clause-equals : goal.returns-in_err-head-clause-equals
returns-in_err-head-clause-equals c =
    let answers = c.judge.ensures (tables_in c.args.tables.now) (sym c.room.ensures) refl in
    rw (handed_on _ _ c.from_residual.ensures) (refused_leaves _ _ _ answers _ c.in_err-head.was)

pub returns-in_err-head-clause-rightly : goal.returns-in_err-head-clause-rightly
returns-in_err-head-clause-rightly c =
    let answers = c.judge.ensures (tables_in c.args.tables.now) (sym c.room.ensures) refl in
    rw (handed_on _ _ c.from_residual.ensures) (rightly _ _ (refused_leaves _ _ _ answers _ c.in_err-head.was))

pub returns : goal.returns
returns c =
    let answers = c.judge.ensures (tables_in c.args.tables.now) (sym c.room.ensures) refl in
    let w = finished_rightly _ _ _ answers _ c.in_ok-head.was _ c.fill.ensures.filled in
    record { same = c.fill.ensures.same; equals = w.0; rightly = w.1 }
