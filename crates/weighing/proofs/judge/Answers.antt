-- `weighing::judge` meets its contract. Assumes nothing.
use mathlib.Core.List.{[]}
use native.Mathlib.Omega.{arith}
use Rattle.fields.specs.Lent.{fields_in}
use Rattle.graph.proofs.Rows.{rows_few}
use Rattle.refusal.proofs.Faults.{handed_on}
use Rattle.weighing.proofs.Faults.{spaced_fields, judge_fields, passed_few, judge_compatibilities, judge_weights, judge_sound}
use Rattle.weighing.proofs.judge.Goals as goal

pub pairs-requires : goal.pairs-requires
pairs-requires c =
    let a = c.args in
    let f = fields_in a.fields in
    spaced_fields c.room.result f c.room.ensures

pub returns-in_err-pairs : goal.returns-in_err-pairs
returns-in_err-pairs c =
    let a = c.args in
    let f = fields_in a.fields in
    rw (handed_on _ _ c.from_residual.ensures)
    (judge_fields a.version a.n c.room.result a.points.now f a.compatibilities a.weights c.room.ensures c.pairs.result
    (c.pairs.ensures _ _ _) _ c.in_err-pairs.was)

pub overflow_mul-entries : goal.overflow_mul-entries
overflow_mul-entries c =
    let p = c.pairs in
    omega (arith, rows_few (passed_few _ _ _ _ _ p.result (p.ensures [] [] []) c.in_ok-pairs.was))

pub returns-then-compatibilities-entries : goal.returns-then-compatibilities-entries
returns-then-compatibilities-entries c =
    let a = c.args in
    let f = fields_in a.fields in
    judge_compatibilities a.version a.n c.room.result a.points.now f a.compatibilities a.weights c.room.ensures c.pairs.result
    (c.pairs.ensures _ _ _) c.in_ok-pairs.was c.if-compatibilities-entries.true

pub returns-then-weights-entries : goal.returns-then-weights-entries
returns-then-weights-entries c =
    let a = c.args in
    let f = fields_in a.fields in
    judge_weights a.version a.n c.room.result a.points.now f a.compatibilities a.weights c.room.ensures c.pairs.result
    (c.pairs.ensures _ _ _) c.in_ok-pairs.was c.if-compatibilities-entries.false c.if-weights-entries.true

pub returns : goal.returns
returns c =
    let a = c.args in
    let f = fields_in a.fields in
    judge_sound a.version a.n c.room.result a.points.now f a.compatibilities a.weights c.room.ensures c.pairs.result
    (c.pairs.ensures _ _ _) c.in_ok-pairs.was c.if-compatibilities-entries.false c.if-weights-entries.false
