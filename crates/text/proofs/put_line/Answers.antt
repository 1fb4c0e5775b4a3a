-- `text::put_line` meets its contract. Assumes nothing.
use native.Mathlib.Omega.{arith}
use Rattle.text.specs.Put.{Put}
use Rattle.text.proofs.Lines.{following_at, after, texts_none, next_fits, put_next, texts_all, length-line, numbers_fit, put_line}
use Rattle.text.proofs.put_line.Goals as goal

numbered : (c : goal.After-loop-number)
    → Put c.put_word-end.result (after c.args.numbers.now) c.put_word-end.new.out c.loop-number.out c.loop-number.end
numbered c =
    let l = c.loop-number in
    texts_all (following_at c.args.numbers.now) _ _ l.number-index _ (omega arith) l.invariant

pub put_word-end-requires : goal.put_word-end-requires
put_word-end-requires c = omega (arith, c.requires, length-line c.args.word.now c.args.numbers.now)

pub loop-number-init : goal.loop-number-init
loop-number-init c = texts_none _ _ _

pub put_following-end-requires : goal.put_following-end-requires
put_following-end-requires c =
    let l = c.loop-number in
    let fits = numbers_fit c.args.word.now c.args.numbers.now c.requires c.put_word-end.ensures in
    next_fits (following_at c.args.numbers.now) _ _ l.number-index _ c.loop-number-test.true (omega arith) l.auto.out l.invariant

pub loop-number-preserved : goal.loop-number-preserved
loop-number-preserved c =
    let l = c.loop-number in
    let fits = numbers_fit c.args.word.now c.args.numbers.now c.requires c.put_word-end.ensures in
    put_next (following_at c.args.numbers.now) _ _ l.number-index _ c.loop-number-test.true (omega arith) l.invariant c.put_following-end.ensures

pub bounds-out-end : goal.bounds-out-end
bounds-out-end c =
    omega (arith, numbers_fit c.args.word.now c.args.numbers.now c.requires c.put_word-end.ensures, (numbered c).ends, c.loop-number.auto.out)

pub overflow_add-result : goal.overflow_add-result
overflow_add-result c =
    omega (arith, c.requires, length-line c.args.word.now c.args.numbers.now, c.put_word-end.ensures.ends, (numbered c).ends)

pub returns : goal.returns
returns c = put_line c.args.word.now c.args.numbers.now c.requires c.put_word-end.ensures (numbered c)
