-- `framing::field` meets its contract. Assumes nothing.
use mathlib.Core.Path.{sym, ◌∙◌}
use Rattle.refusal.specs.Number.{fault_at}
use Rattle.pool.proofs.Fields.{field_none}
use Rattle.framing.proofs.Fields.{no_start, other_tag, other_length, no_value}
use Rattle.framing.proofs.field.Goals as goal

pub returns-then-b-o : goal.returns-then-b-o
unfolding fault_at
returns-then-b-o c = sym (no_start _ _ _ _ c.if-b-o.true)

pub returns-then-number-tag : goal.returns-then-number-tag
unfolding fault_at
returns-then-number-tag c = sym (other_tag _ _ _ _ c.if-b-o.false (λ e. c.if-number-tag.true (c.number.ensures ∙ e)))

pub returns-then-number-len : goal.returns-then-number-len
unfolding fault_at
returns-then-number-len c =
    let d = c in
    sym
    (other_length _ _ _ _ d.if-b-o.false (sym d.number.ensures ∙ d.if-number-tag.false)
    (λ e. c.if-number-len.true (c.number-2.ensures ∙ e)))

pub returns-then-b-o-2 : goal.returns-then-b-o-2
unfolding fault_at
returns-then-b-o-2 c =
    let e = c in
    let d = e in
    sym
    (no_value _ _ _ _ d.if-b-o.false (sym d.number.ensures ∙ d.if-number-tag.false)
    (sym e.number-2.ensures ∙ e.if-number-len.false) c.if-b-o-2.true)

pub returns-else-b-o-2 : goal.returns-else-b-o-2
unfolding fault_at
returns-else-b-o-2 c =
    let e = c in
    let d = e in
    sym
    (field_none _ _ _ _
    (record {
      whole = c.if-b-o-2.false;
      tagged = sym d.number.ensures ∙ d.if-number-tag.false;
      sized = sym e.number-2.ensures ∙ e.if-number-len.false;
    }))
