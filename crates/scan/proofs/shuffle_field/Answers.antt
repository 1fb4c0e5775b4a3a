-- `scan::shuffle_field` meets its contract. Assumes nothing.
use mathlib.Core.Path.{◌≡◌, ap, ◌∙◌}
use borrow.Author.Rules.{rules}
use Rattle.laws.proofs.Lent.{filled_at}
use Rattle.refusal.specs.Number.{fault_at}
use Rattle.refusal.proofs.Faults.{sound_none, sound_then, faulty_then, handed_on}
use Rattle.pool.specs.Sheet.{shuffle_tag, shuffle_length, pair_place, pair_due}
use Rattle.pool.specs.Faults.{field_fault, shuffle_field_fault}
use Rattle.pool.proofs.Fields.{field_passed}
use Rattle.pool.proofs.Pairs.{shuffle_cong}
use Rattle.scan.proofs.shuffle_field.Goals as goal

pub returns-in_err-field : goal.returns-in_err-field
unfolding fault_at shuffle_field_fault
returns-in_err-field c =
    let due : c.pair_place-o.result ≡ pair_due c.args.b.now c.args.n =
    c.pair_place-o.ensures.0 ∙ ap (λ v. pair_place v c.args.n) c.requires.1 in
    let found : fault_at (pair_due c.args.b.now c.args.n) c.field.result ≡ field_fault c.args.b.now (pair_due c.args.b.now c.args.n) shuffle_tag (shuffle_length c.args.n) =
    rw (← due) c.field.ensures in
    rw (handed_on _ _ c.from_residual.ensures) (faulty_then _ _ _ _ found _ c.in_err-field.was)

pub fill_numbers-requires : goal.fill_numbers-requires
fill_numbers-requires c =
    let due : c.pair_place-o.result ≡ pair_due c.args.b.now c.args.n =
    c.pair_place-o.ensures.0 ∙ ap (λ v. pair_place v c.args.n) c.requires.1 in
    let found : fault_at (pair_due c.args.b.now c.args.n) c.field.result ≡ field_fault c.args.b.now (pair_due c.args.b.now c.args.n) shuffle_tag (shuffle_length c.args.n) =
    rw (← due) c.field.ensures in
    let w = field_passed _ _ _ _ (sound_none _ _ found c.in_ok-field.was) in
    (search rules, rw due w.whole, search rules)

pub returns : goal.returns
unfolding shuffle_field_fault
returns c =
    let due : c.pair_place-o.result ≡ pair_due c.args.b.now c.args.n =
    c.pair_place-o.ensures.0 ∙ ap (λ v. pair_place v c.args.n) c.requires.1 in
    let found : fault_at (pair_due c.args.b.now c.args.n) c.field.result ≡ field_fault c.args.b.now (pair_due c.args.b.now c.args.n) shuffle_tag (shuffle_length c.args.n) =
    rw (← due) c.field.ensures in
    sound_then _ _ _ _ found c.in_ok-field.was
    (c.shuffle.ensures _ ∙ shuffle_cong _ _ _ _ (filled_at _ _ _ _ (rw due at c.fill_numbers.ensures)))
