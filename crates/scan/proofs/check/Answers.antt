-- `scan::check` meets its contract. Assumes nothing.
use Prim.Native.Nat.{◌≤◌}
use mathlib.Core.Path.{◌≡◌, ap, ◌∙◌}
use native.Mathlib.Omega.{arith}
use Rattle.refusal.specs.Fault.{none, fault, first_below}
use Rattle.refusal.proofs.Faults.{nothing_none, found_fault_lem, handed_on}
use Rattle.pool.specs.Sheet.{pair_place, sheet_length, version_in, pairs_in, pair_due}
use Rattle.pool.specs.Faults.{head_fault, points_field_fault, pair_field_fault, shuffle_field_fault}
use Rattle.pool.proofs.Reading.{head_passed}
use Rattle.refusal.specs.Number.{found_fault}
use Rattle.scan.proofs.Sheet.{at_head, at_points, at_pairs, at_shuffle, left_over, nothing_over}
use Rattle.scan.proofs.check.Goals as goal

pub returns-in_err-at : goal.returns-in_err-at
unfolding found_fault
returns-in_err-at c = rw (handed_on _ _ c.from_residual.ensures) (at_head _ (found_fault_lem _ (c.at.ensures ∙ c.head.ensures) _ c.in_err-at.was))

pub version_in-version-requires : goal.version_in-version-requires
version_in-version-requires c =
    let no-head : head_fault c.args.b.now ≡ none =
    nothing_none _ (c.at.ensures ∙ c.head.ensures) c.in_ok-at.was in
    (head_passed _ no-head).field.whole

pub returns-in_err-at-2 : goal.returns-in_err-at-2
unfolding found_fault
returns-in_err-at-2 c =
    let no-head : head_fault c.args.b.now ≡ none =
    nothing_none _ (c.at.ensures ∙ c.head.ensures) c.in_ok-at.was in
    rw (handed_on _ _ c.from_residual-in_err-at-2.ensures) (at_points _ no-head (found_fault_lem _ (c.at-2.ensures ∙ c.points_field.ensures) _ c.in_err-at-2.was))

pub pairs_in-n-requires : goal.pairs_in-n-requires
pairs_in-n-requires c =
    let no-head : head_fault c.args.b.now ≡ none =
    nothing_none _ (c.at.ensures ∙ c.head.ensures) c.in_ok-at.was in
    (head_passed _ no-head).field.whole

pub pairs-requires : goal.pairs-requires
pairs-requires c =
    let no-head : head_fault c.args.b.now ≡ none =
    nothing_none _ (c.at.ensures ∙ c.head.ensures) c.in_ok-at.was in
    let many : c.pairs_in-n.result ≡ pairs_in c.args.b.now =
    c.pairs_in-n.ensures in
    let few : c.pairs_in-n.result ≤ 200 =
    rw many (head_passed _ no-head).few in
    (few, c.version_in-version.ensures)

pub returns-in_err-pairs : goal.returns-in_err-pairs
unfolding found_fault
returns-in_err-pairs c =
    let no-head : head_fault c.args.b.now ≡ none =
    nothing_none _ (c.at.ensures ∙ c.head.ensures) c.in_ok-at.was in
    let no-points : points_field_fault c.args.b.now ≡ none =
    nothing_none _ (c.at-2.ensures ∙ c.points_field.ensures) c.in_ok-at-2.was in
    let many : c.pairs_in-n.result ≡ pairs_in c.args.b.now =
    c.pairs_in-n.ensures in
    rw (handed_on _ _ c.from_residual-in_err-pairs.ensures) (at_pairs _ _ many no-head no-points (found_fault_lem _ c.pairs.ensures _ c.in_err-pairs.was))

pub pair_place-place-requires : goal.pair_place-place-requires
pair_place-place-requires c =
    let no-head : head_fault c.args.b.now ≡ none =
    nothing_none _ (c.at.ensures ∙ c.head.ensures) c.in_ok-at.was in
    let many : c.pairs_in-n.result ≡ pairs_in c.args.b.now =
    c.pairs_in-n.ensures in
    let few : c.pairs_in-n.result ≤ 200 =
    rw many (head_passed _ no-head).few in
    few

pub shuffle_field-requires : goal.shuffle_field-requires
shuffle_field-requires c =
    let no-head : head_fault c.args.b.now ≡ none =
    nothing_none _ (c.at.ensures ∙ c.head.ensures) c.in_ok-at.was in
    let many : c.pairs_in-n.result ≡ pairs_in c.args.b.now =
    c.pairs_in-n.ensures in
    let few : c.pairs_in-n.result ≤ 200 =
    rw many (head_passed _ no-head).few in
    (few, c.version_in-version.ensures)

pub returns-in_err-at-3 : goal.returns-in_err-at-3
unfolding found_fault
returns-in_err-at-3 c =
    let no-head : head_fault c.args.b.now ≡ none =
    nothing_none _ (c.at.ensures ∙ c.head.ensures) c.in_ok-at.was in
    let no-points : points_field_fault c.args.b.now ≡ none =
    nothing_none _ (c.at-2.ensures ∙ c.points_field.ensures) c.in_ok-at-2.was in
    let many : c.pairs_in-n.result ≡ pairs_in c.args.b.now =
    c.pairs_in-n.ensures in
    let no_pairs : first_below c.pairs_in-n.result (pair_field_fault c.args.b.now) ≡ none =
    nothing_none _ c.pairs.ensures c.in_ok-pairs.was in
    let due : c.pair_place-place.result ≡ pair_due c.args.b.now c.pairs_in-n.result =
    c.pair_place-place.ensures.0 ∙ ap (λ v. pair_place v c.pairs_in-n.result) c.version_in-version.ensures in
    let found : found_fault c.at-3.result ≡ shuffle_field_fault c.args.b.now c.pairs_in-n.result =
    c.at-3.ensures ∙ rw due c.shuffle_field.ensures in
    rw (handed_on _ _ c.from_residual-in_err-at-3.ensures)
    (at_shuffle _ _ many no-head no-points no_pairs (found_fault_lem _ found _ c.in_err-at-3.was))

pub sheet_length-end-requires : goal.sheet_length-end-requires
sheet_length-end-requires c =
    let no-head : head_fault c.args.b.now ≡ none =
    nothing_none _ (c.at.ensures ∙ c.head.ensures) c.in_ok-at.was in
    let many : c.pairs_in-n.result ≡ pairs_in c.args.b.now =
    c.pairs_in-n.ensures in
    let few : c.pairs_in-n.result ≤ 200 =
    rw many (head_passed _ no-head).few in
    few

pub returns-then-end-b : goal.returns-then-end-b
unfolding found_fault
returns-then-end-b c =
    let no-head : head_fault c.args.b.now ≡ none =
    nothing_none _ (c.at.ensures ∙ c.head.ensures) c.in_ok-at.was in
    let no-points : points_field_fault c.args.b.now ≡ none =
    nothing_none _ (c.at-2.ensures ∙ c.points_field.ensures) c.in_ok-at-2.was in
    let many : c.pairs_in-n.result ≡ pairs_in c.args.b.now =
    c.pairs_in-n.ensures in
    let no_pairs : first_below c.pairs_in-n.result (pair_field_fault c.args.b.now) ≡ none =
    nothing_none _ c.pairs.ensures c.in_ok-pairs.was in
    let due : c.pair_place-place.result ≡ pair_due c.args.b.now c.pairs_in-n.result =
    c.pair_place-place.ensures.0 ∙ ap (λ v. pair_place v c.pairs_in-n.result) c.version_in-version.ensures in
    let no-shuffle : shuffle_field_fault c.args.b.now c.pairs_in-n.result ≡ none =
    nothing_none _ (c.at-3.ensures ∙ rw due c.shuffle_field.ensures) c.in_ok-at-3.was in
    let end : c.sheet_length-end.result ≡ sheet_length (version_in c.args.b.now) c.pairs_in-n.result =
    c.sheet_length-end.ensures.0 ∙ ap (λ v. sheet_length v c.pairs_in-n.result) c.version_in-version.ensures in
    rw c.at-then-end-b.ensures
    (ap (fault 5) end ∙ left_over _ _ many no-head no-points no_pairs no-shuffle (omega (arith, end, c.if-end-b.true)))

pub returns : goal.returns
unfolding found_fault
returns c =
    let no-head : head_fault c.args.b.now ≡ none =
    nothing_none _ (c.at.ensures ∙ c.head.ensures) c.in_ok-at.was in
    let no-points : points_field_fault c.args.b.now ≡ none =
    nothing_none _ (c.at-2.ensures ∙ c.points_field.ensures) c.in_ok-at-2.was in
    let many : c.pairs_in-n.result ≡ pairs_in c.args.b.now =
    c.pairs_in-n.ensures in
    let no_pairs : first_below c.pairs_in-n.result (pair_field_fault c.args.b.now) ≡ none =
    nothing_none _ c.pairs.ensures c.in_ok-pairs.was in
    let due : c.pair_place-place.result ≡ pair_due c.args.b.now c.pairs_in-n.result =
    c.pair_place-place.ensures.0 ∙ ap (λ v. pair_place v c.pairs_in-n.result) c.version_in-version.ensures in
    let end : c.sheet_length-end.result ≡ sheet_length (version_in c.args.b.now) c.pairs_in-n.result =
    c.sheet_length-end.ensures.0 ∙ ap (λ v. sheet_length v c.pairs_in-n.result) c.version_in-version.ensures in
    nothing_over _ _ many no-head no-points no_pairs (nothing_none _ (c.at-3.ensures ∙ rw due c.shuffle_field.ensures) c.in_ok-at-3.was)
    (omega (arith, end, c.if-end-b.false))
