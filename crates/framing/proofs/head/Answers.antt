-- `framing::head` meets its contract. Assumes nothing.
use mathlib.Core.Path.{sym, ap, ◌∙◌}
use native.Mathlib.Omega.{arith}
use Rattle.refusal.specs.Number.{fault_at}
use Rattle.refusal.proofs.Faults.{sound_none, faulty_then, handed_on}
use Rattle.pool.specs.Points.{known_version}
use Rattle.pool.specs.Faults.{head_fault}
use Rattle.pool.proofs.Fields.{field_passed}
use Rattle.framing.proofs.Fields.{other_version, too_many, head_none}
use Rattle.framing.proofs.head.Goals as goal

pub returns-in_err-field : goal.returns-in_err-field
unfolding fault_at head_fault
returns-in_err-field c = rw (handed_on _ _ c.from_residual.ensures) (faulty_then 0 _ _ _ c.field.ensures _ c.in_err-field.was)

pub version_in-requires : goal.version_in-requires
version_in-requires c = (field_passed _ _ _ _ (sound_none 0 c.field.result c.field.ensures c.in_ok-field.was)).whole

pub returns-then-not-known : goal.returns-then-not-known
unfolding fault_at
returns-then-not-known c = sym (other_version _ (sound_none 0 _ c.field.ensures c.in_ok-field.was) (sym (c.known.ensures ∙ ap known_version c.version_in.ensures) ∙ c.if-not-known.true))

pub pairs_in-requires : goal.pairs_in-requires
pairs_in-requires c = (field_passed _ _ _ _ (sound_none 0 c.field.result c.field.ensures c.in_ok-field.was)).whole

pub returns-then-pairs_in-gt200 : goal.returns-then-pairs_in-gt200
unfolding fault_at
returns-then-pairs_in-gt200 c =
    sym (too_many _ (sound_none 0 _ c.field.ensures c.in_ok-field.was) (sym (c.known.ensures ∙ ap known_version c.version_in.ensures) ∙ c.if-not-known.false) (omega arith))

pub returns : goal.returns
unfolding fault_at
returns c =
    sym (head_none _ (sound_none 0 _ c.field.ensures c.in_ok-field.was) (sym (c.known.ensures ∙ ap known_version c.version_in.ensures) ∙ c.if-not-known.false) (omega arith))
