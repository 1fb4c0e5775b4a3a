-- `cursor::next` meets its contract: each return is one of the seven ways on. Assumes nothing.
use mathlib.Core.Path.{sym, ◌∙◌}
use Rattle.cursor.proofs.Order.{two_more, two_over, two_last, third_more, second_more, first_more, to_twos}
use Rattle.cursor.proofs.Following.{next_is}
use Rattle.cursor.proofs.next.Goals as goal

pub returns-then-v-n : goal.returns-then-v-n
returns-then-v-n c = sym (two_more _ _ c.if-w-n.true c.if-v-n.true) ∙ next_is _ _ c.requires

pub returns-then-u-n : goal.returns-then-u-n
returns-then-u-n c = sym (two_over _ _ c.if-w-n.true c.if-v-n.false c.if-u-n.true) ∙ next_is _ _ c.requires

pub returns-then-w-n : goal.returns-then-w-n
returns-then-w-n c = sym (two_last _ _ c.if-w-n.true c.if-v-n.false c.if-u-n.false) ∙ next_is _ _ c.requires

pub returns-then-w-n-2 : goal.returns-then-w-n-2
returns-then-w-n-2 c = sym (third_more _ _ c.if-w-n.false c.if-w-n-2.true) ∙ next_is _ _ c.requires

pub returns-then-v-n-2 : goal.returns-then-v-n-2
returns-then-v-n-2 c = sym (second_more _ _ c.if-w-n.false c.if-w-n-2.false c.if-v-n-2.true) ∙ next_is _ _ c.requires

pub returns-then-u-n-2 : goal.returns-then-u-n-2
returns-then-u-n-2 c =
    let else1 = c in
    sym (first_more _ _ else1.if-w-n.false c.if-w-n-2.false c.if-v-n-2.false c.if-u-n-2.true) ∙ next_is _ _ else1.requires

pub returns : goal.returns
returns c =
    let else1 = c in
    sym (to_twos _ _ else1.if-w-n.false c.if-w-n-2.false c.if-v-n-2.false c.if-u-n-2.false) ∙ next_is _ _ else1.requires
