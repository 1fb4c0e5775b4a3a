-- `scan::pairs` meets its contract. The loop's invariant: the first i pairs have no fault, and their ids are noted. Assumes nothing.
use Prim.Native.Nat.{◌+◌}
use mathlib.Core.Path.{◌≡◌, refl, sym, ap, ◌∙◌}
use native.Mathlib.Omega.{arith}
use borrow.Author.Rules.{rules}
use lib.ListN.{set, length-set}
use Rattle.laws.proofs.Digits.{big_endian_lt}
use Rattle.refusal.specs.Fault.{first_below}
use Rattle.refusal.specs.Number.{fault_at, found_fault}
use Rattle.refusal.proofs.Faults.{none_then, fault_then, nothing_none, found_fault_lem, handed_on, first_hit, first_more}
use Rattle.pool.specs.Sheet.{pair_tag, pair_length, pair_place, id_at, pair_at, pair_due}
use Rattle.pool.specs.Faults.{field_fault, pair_field_fault}
use Rattle.pool.specs.Faultless.{PairField}
use Rattle.pool.proofs.Fields.{field_passed}
use Rattle.scan.specs.Preconditions.{Noted}
use Rattle.scan.proofs.Notes.{noted_none, noted_more}
use Rattle.scan.proofs.pairs.Goals as goal

pub loop-i-init : goal.loop-i-init
unfolding first_below
loop-i-init c = (refl, noted_none _ _, refl)

pub returns-in_err-at : goal.returns-in_err-at
unfolding found_fault pair_field_fault
returns-in_err-at c =
    let i = c.loop-i.i in
    let due : c.pair_place-place.result ≡ pair_due c.args.b.now i =
    c.pair_place-place.ensures.0 ∙ ap (λ v. pair_place v i) c.requires.1 in
    let found : found_fault c.at.result ≡ field_fault c.args.b.now (pair_due c.args.b.now i) pair_tag pair_length =
    c.at.ensures ∙ rw (← due) c.field.ensures in
    rw (handed_on _ _ c.from_residual.ensures)
    (sym (first_hit _ _ i (omega arith) c.loop-i.invariant.2 (fault_then _ _ (found_fault_lem _ found _ c.in_err-at.was))))

pub number-requires : goal.number-requires
number-requires c =
    let i = c.loop-i.i in
    let due : c.pair_place-place.result ≡ pair_due c.args.b.now i =
    c.pair_place-place.ensures.0 ∙ ap (λ v. pair_place v i) c.requires.1 in
    let found : found_fault c.at.result ≡ field_fault c.args.b.now (pair_due c.args.b.now i) pair_tag pair_length =
    c.at.ensures ∙ rw (← due) c.field.ensures in
    let whole : PairField c.args.b.now i = field_passed _ _ _ _ (nothing_none _ found c.in_ok-at.was) in
    (search rules, omega (arith, whole.whole, due))

pub overflow_cast-ids : goal.overflow_cast-ids
overflow_cast-ids c =
    omega (arith, big_endian_lt c.args.b.now (c.pair_place-place.result + id_at) 4 (λ j. (c.type_inv.b j).fits))

pub pair_value-requires : goal.pair_value-requires
unfolding pair_at
pair_value-requires c =
    let l = c.loop-i in
    let due : c.pair_place-place.result ≡ pair_due c.args.b.now l.i =
    c.pair_place-place.ensures.0 ∙ ap (λ v. pair_place v l.i) c.requires.1 in
    let found : found_fault c.at.result ≡ field_fault c.args.b.now (pair_due c.args.b.now l.i) pair_tag pair_length =
    c.at.ensures ∙ rw (← due) c.field.ensures in
    let whole : PairField c.args.b.now l.i = field_passed _ _ _ _ (nothing_none _ found c.in_ok-at.was) in
    let noted : Noted c.args.b.now (l.i + 1) (set l.ids l.i c.number.result) =
    noted_more _ l.i l.ids _ l.invariant.1 (omega arith) (rw (← due) c.number.ensures) in
    (search rules, search rules, omega (arith, whole.whole, due, c.pair_place-place.ensures), noted)

pub returns-in_err-at-2 : goal.returns-in_err-at-2
unfolding found_fault pair_field_fault
returns-in_err-at-2 c =
    let i = c.loop-i.i in
    let due : c.pair_place-place.result ≡ pair_due c.args.b.now i =
    c.pair_place-place.ensures.0 ∙ ap (λ v. pair_place v i) c.requires.1 in
    let found : found_fault c.at.result ≡ field_fault c.args.b.now (pair_due c.args.b.now i) pair_tag pair_length =
    c.at.ensures ∙ rw (← due) c.field.ensures in
    rw (handed_on _ _ c.from_residual-in_err-at-2.ensures)
    (sym (first_hit _ _ i (omega arith) c.loop-i.invariant.2
    (none_then _ _ (nothing_none _ found c.in_ok-at.was) ∙ found_fault_lem _ (c.at-in-loop-i.ensures ∙ ap (λ o. fault_at o c.pair_value.result) due ∙ c.pair_value.ensures) _ c.in_err-at-2.was)))

pub loop-i-preserved : goal.loop-i-preserved
unfolding pair_field_fault pair_at
loop-i-preserved c =
    let l = c.loop-i in
    let due : c.pair_place-place.result ≡ pair_due c.args.b.now l.i =
    c.pair_place-place.ensures.0 ∙ ap (λ v. pair_place v l.i) c.requires.1 in
    let found : found_fault c.at.result ≡ field_fault c.args.b.now (pair_due c.args.b.now l.i) pair_tag pair_length =
    c.at.ensures ∙ rw (← due) c.field.ensures in (
      length-set l.ids l.i _ ∙ l.invariant.0,
      noted_more _ l.i l.ids _ l.invariant.1 (omega arith) (rw (← due) c.number.ensures),
      first_more l.i _ l.invariant.2
          (none_then _ _ (nothing_none _ found c.in_ok-at.was)
          ∙ nothing_none _ (c.at-in-loop-i.ensures ∙ ap (λ o. fault_at o c.pair_value.result) due ∙ c.pair_value.ensures) c.in_ok-at-2.was),
    )

pub returns : goal.returns
unfolding found_fault
returns c = sym (ap (λ k. first_below k (pair_field_fault c.args.b.now)) (omega arith) ∙ c.loop-i.invariant.2)
