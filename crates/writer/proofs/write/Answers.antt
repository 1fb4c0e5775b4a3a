-- `writer::write` meets its contract: each answer is what the definition says, and so keeps the promise. Assumes nothing.
use native.Mathlib.Omega.{arith}
use Rattle.pool.specs.Tables.{tables}
use Rattle.fields.specs.Lent.{fields_in}
use Rattle.pool.specs.Faultless.{FaultlessPool}
use Rattle.refusal.proofs.Faults.{handed_on}
use Rattle.writer.proofs.Answered.{answered_fault, answered_faultless, answered_short, answered_written, answered_rightly}
use Rattle.writer.proofs.write.Goals as goal

pub returns-in_err-judge : goal.returns-in_err-judge
returns-in_err-judge c =
    let given = tables c.args.points.now (fields_in c.args.fields) c.args.shuffle.now in
    let e = answered_fault c.args.version c.args.n given c.args.out.now c.judge.result c.judge.ensures _ c.in_err-judge.was in
    rw (handed_on _ _ c.from_residual.ensures)
    (record { equals = e; rightly = answered_rightly c.args.version c.args.n given c.args.out.now _ _ e })

pub sheet_length-length-requires : goal.sheet_length-length-requires
sheet_length-length-requires c =
    let given = tables c.args.points.now (fields_in c.args.fields) c.args.shuffle.now in
    let faultless : FaultlessPool c.args.version c.args.n given =
    answered_faultless c.args.version c.args.n given c.args.out.now c.judge.result c.judge.ensures c.in_ok-judge.was in
    faultless.pool.few

pub returns-then-out-length : goal.returns-then-out-length
returns-then-out-length c =
    let given = tables c.args.points.now (fields_in c.args.fields) c.args.shuffle.now in
    let e =
    answered_short c.args.version c.args.n given c.args.out.now c.judge.result c.judge.ensures c.in_ok-judge.was
    c.sheet_length-length.result c.sheet_length-length.ensures.0 (omega (arith, c.sheet_length-length.ensures, c.if-out-length.true)) in
    record { equals = e; rightly = answered_rightly c.args.version c.args.n given c.args.out.now _ _ e }

pub put_sheet-requires : goal.put_sheet-requires
put_sheet-requires c =
    let given = tables c.args.points.now (fields_in c.args.fields) c.args.shuffle.now in
    let faultless : FaultlessPool c.args.version c.args.n given =
    answered_faultless c.args.version c.args.n given c.args.out.now c.judge.result c.judge.ensures c.in_ok-judge.was in
    let w = faultless in
    record { fact = w.hold; n_bound = (w.pool.few, omega (arith, c.sheet_length-length.ensures, c.if-out-length.false)) }

pub returns : goal.returns
returns c =
    let given = tables c.args.points.now (fields_in c.args.fields) c.args.shuffle.now in
    let e =
    answered_written c.args.version c.args.n given c.args.out.now c.judge.result c.judge.ensures c.in_ok-judge.was
    c.sheet_length-length.result c.sheet_length-length.ensures.0 _ (omega (arith, c.if-out-length.false)) c.put_sheet.ensures in
    record { equals = e; rightly = answered_rightly c.args.version c.args.n given c.args.out.now _ _ e }
