-- `printout::print_refused` meets its contract: each answer is what the definition says, and so keeps the promise. Assumes nothing.
use native.Mathlib.Omega.{arith}
use Rattle.printout.specs.Printed.{refusal_text}
use Rattle.printout.proofs.Answered.{refusal_short, refusal_put, prints_refused}
use Rattle.printout.proofs.print_refused.Goals as goal

pub returns-then-out-line_length : goal.returns-then-out-line_length
unfolding refusal_text
returns-then-out-line_length c =
    let e =
    refusal_short c.args.number c.args.place c.args.out.now (omega (arith, c.if-out-line_length.true, c.line_length.ensures.0)) in
    record { equals = e; rightly = prints_refused c.args.number c.args.place c.args.out.now c.ranges.place.fits e c.ranges.number.fits }

pub returns : goal.returns
unfolding refusal_text
returns c =
    let e =
    refusal_put c.args.number c.args.place c.args.out.now
    (omega (arith, c.line_length.ensures.0, c.if-out-line_length.false)) c.put_line.ensures in
    record { equals = e; rightly = prints_refused c.args.number c.args.place c.args.out.now c.ranges.place.fits e c.ranges.number.fits }
