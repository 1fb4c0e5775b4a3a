-- What printing answers and leaves, by what was found of the tables and of the buffer. Assumes nothing.
use mathlib.Core.Path.{◌≡◌, refl, sym, ap, ap₂, ◌∙◌}
use mathlib.Core.List.{List}
use Prim.Native.Nat.{ℕ, ◌≤◌, ◌<◌}
use native.Mathlib.Nat.{zero-add}
use native.Mathlib.Omega.{arith}
use borrow.Author.Tests.{lt-ltb, le-ltb, ltb-false}
use lib.ListN.{length}
use Rattle.laws.specs.Lent.{filled}
use Rattle.laws.proofs.Lent.{stored-filled}
use Rattle.refusal.specs.Fault.{Fault, none, fault}
use Rattle.refusal.specs.Answer.{Answer, finished, Outcome, outcome, unless}
use Rattle.refusal.specs.Number.{number_of, fault_at}
use Rattle.refusal.specs.declared.Refusal.{Refusal}
use Rattle.refusal.specs.declared.Refusal.TheVariants.{TooShort}
use Rattle.std.specs.Prelude.{Result, Ok, Err}
use Rattle.std.specs.Result.{IsOk}
use Rattle.refusal.proofs.Faults.{refuse_none, none_refuse, fault_refuse, then_none, none_then, fault_then, by_refuse, by_then, sound_none, faulty_fault, unless_none, unless_fault, finished_none, refused_fault}
use Rattle.printout.specs.Printed.{PrintedPlan, plan_text, refusal_text}
use Rattle.pool.specs.Faults.{room_fault}
use Rattle.printout.specs.Calls.{print_fault, printing_plan, printing_refusal}
use Rattle.printout.specs.Answers.{answer_of}
use Rattle.text.specs.Put.{Put}
use Rattle.partners.specs.Preconditions.{PlanTablesHold}
use Rattle.printout.specs.Promises.{PlanTyped, Prints, PrintsPlan, PrintsRefused, PrintsRefusal}
use Rattle.printout.proofs.Promised.{plan_fits, refused_fits, refusal_fits}

-- the number and the place of every refusal of printing
abbrev Nine : ℕ → ℕ → Type 0
Nine k o = (k ≡ 9) × (o ≡ 0)

-- ## A text that fits the buffer, or not

module _ (room : ℕ) (text : List ℕ) where
  room_none : length text ≤ room → room_fault room (length text) ≡ none
  unfolding room_fault
  room_none l = none_refuse 9 0 _ (le-ltb room (length text) l)

  room_fault_lem : room < length text → room_fault room (length text) ≡ fault 9 0
  unfolding room_fault
  room_fault_lem l = fault_refuse 9 0 _ (lt-ltb room (length text) l)

  none_room : room_fault room (length text) ≡ none → length text ≤ room
  unfolding room_fault
  none_room e = ltb-false room (length text) (refuse_none 9 0 _ e)

  nine : (k o : ℕ) → room_fault room (length text) ≡ fault k o → Nine k o
  unfolding room_fault
  nine = by_refuse Nine 9 0 _ (λ _. (refl, refl))

-- what is put from the buffer's start fills it
put_filled : {text old new : List ℕ} {end : ℕ} → Put 0 text old new end → outcome (answer_of (Ok end)) new ≡ outcome (finished (length text)) (filled text old)
unfolding answer_of
put_filled {text} {old} p = ap₂ (λ (k : ℕ) (b : List ℕ). outcome (finished k) b) (p.ends ∙ zero-add (length text)) (p.holds ∙ stored-filled text old)

-- ## A plan

module _ (room : ℕ) (p : PrintedPlan) where
  pub judged_ids : length p.ids < p.pairs → fault_at 0 (Err TooShort) ≡ print_fault room p
  unfolding print_fault room_fault fault_at
  judged_ids l = sym (fault_then _ _ (fault_refuse 9 0 _ (lt-ltb _ _ l)))

  pub judged_donors : p.pairs ≤ length p.ids → length p.donors < p.pairs → fault_at 0 (Err TooShort) ≡ print_fault room p
  unfolding print_fault room_fault fault_at
  judged_donors h l = sym (none_then _ _ (none_refuse 9 0 _ (le-ltb _ _ h)) ∙ fault_then _ _ (fault_refuse 9 0 _ (lt-ltb _ _ l)))

  pub judged_recipients : p.pairs ≤ length p.ids → p.pairs ≤ length p.donors → length p.recipients < p.pairs
      → fault_at 0 (Err TooShort) ≡ print_fault room p
  unfolding print_fault room_fault fault_at
  judged_recipients h i l =
      sym
      (none_then _ _ (none_refuse 9 0 _ (le-ltb _ _ h))
      ∙ none_then _ _ (none_refuse 9 0 _ (le-ltb _ _ i))
      ∙ fault_then _ _ (fault_refuse 9 0 _ (lt-ltb _ _ l)))

  module _ (hold : PlanTablesHold p.pairs p.ids p.donors p.recipients) where
    tables_passed : print_fault room p ≡ room_fault room (length (plan_text p))
    unfolding print_fault room_fault
    tables_passed =
        none_then _ _ (none_refuse 9 0 _ (le-ltb _ _ hold.ids))
        ∙ none_then _ _ (none_refuse 9 0 _ (le-ltb _ _ hold.donors))
        ∙ none_then _ _ (none_refuse 9 0 _ (le-ltb _ _ hold.recipients))

    pub judged_fits : length (plan_text p) ≤ room → fault_at 0 (Ok tt) ≡ print_fault room p
    unfolding fault_at
    judged_fits l = sym (tables_passed ∙ room_none room (plan_text p) l)

    pub judged_long : room < length (plan_text p) → fault_at 0 (Err TooShort) ≡ print_fault room p
    unfolding fault_at
    judged_long l = sym (tables_passed ∙ room_fault_lem room (plan_text p) l)

  -- with no fault the tables hold the pairs, and the buffer the text
  passed : print_fault room p ≡ none → PlanTablesHold p.pairs p.ids p.donors p.recipients × (length (plan_text p) ≤ room)
  unfolding print_fault room_fault
  passed e =
      let a = then_none _ _ e in
      let b = then_none _ _ a.1 in
      let d = then_none _ _ b.1 in (
        record {
          ids = ltb-false _ _ (refuse_none 9 0 _ a.0);
          donors = ltb-false _ _ (refuse_none 9 0 _ b.0);
          recipients = ltb-false _ _ (refuse_none 9 0 _ d.0);
        },
        none_room room (plan_text p) d.1,
      )

  plan_nine : (k o : ℕ) → print_fault room p ≡ fault k o → Nine k o
  unfolding print_fault room_fault
  plan_nine =
      by_then Nine _ _ (by_refuse Nine 9 0 _ (λ _. (refl, refl)))
      (λ _.
      by_then Nine _ _ (by_refuse Nine 9 0 _ (λ _. (refl, refl)))
      (λ _. by_then Nine _ _ (by_refuse Nine 9 0 _ (λ _. (refl, refl))) (λ _. nine room (plan_text p))))

module _ (p : PrintedPlan) (out : List ℕ) (found : Result Unit Refusal) (e : fault_at 0 found ≡ print_fault (length out) p) where
  pub answered_fault : (why : Refusal) → found ≡ Err why → outcome (answer_of (Err why)) out ≡ printing_plan p out
  unfolding answer_of printing_plan
  answered_fault why f = sym (unless_fault _ _ _ _ (number_of why) 0 (faulty_fault 0 found e why f))

  module _ (f : found ≡ (Ok tt)) where
    pub answered_passed : PlanTablesHold p.pairs p.ids p.donors p.recipients × (length (plan_text p) ≤ length out)
    answered_passed = passed (length out) p (sound_none 0 found e f)

    pub answered_printed : {new : List ℕ} {end : ℕ} → Put 0 (plan_text p) out new end → outcome (answer_of (Ok end)) new ≡ printing_plan p out
    unfolding printing_plan
    answered_printed w = put_filled w ∙ sym (unless_none _ _ _ _ (sound_none 0 found e f))

-- ## A refusal

module _ (number place : ℕ) (out : List ℕ) where
  pub refusal_short : length out < length (refusal_text number place) → outcome (answer_of (Err TooShort)) out ≡ printing_refusal number place out
  unfolding answer_of printing_refusal
  refusal_short l = sym (unless_fault _ _ _ _ 9 0 (room_fault_lem (length out) (refusal_text number place) l))

  pub refusal_put : {new : List ℕ} {end : ℕ} → length (refusal_text number place) ≤ length out → Put 0 (refusal_text number place) out new end
      → outcome (answer_of (Ok end)) new ≡ printing_refusal number place out
  unfolding printing_refusal
  refusal_put l w = put_filled w ∙ sym (unless_none _ _ _ _ (room_none (length out) (refusal_text number place) l))

-- ## The promises: what is answered as the definition says keeps them

answer_of_lem : {a : Answer ℕ} {new : List ℕ} {o : Outcome ℕ (List ℕ)} → outcome a new ≡ o → a ≡ o.answer
answer_of_lem e = ap (λ (o : Outcome ℕ (List ℕ)). o.answer) e

-- by a fault that is surely none where `sure` holds, that none is only where the text fits, and that is 9 with place 0 otherwise
prints_by : (f : Fault) {sure : Type 0} (text out : List ℕ) {new : List ℕ} {a : Answer ℕ}
    → (sure → f ≡ none) → (f ≡ none → length text ≤ length out) → ((k o : ℕ) → f ≡ fault k o → Nine k o)
    → outcome a new ≡ unless f (length text) (filled text out) out → Prints sure text out (outcome a new)
prints_by f text out {new} {a} h i j e =
    record {
      prints = λ s. answer_of_lem e ∙ ap (λ (o : Outcome ℕ (List ℕ)). o.answer) (unless_none f _ _ _ (h s));
      within =
          λ n g.
          let r = finished_none f (length text) (filled text out) out (sym (answer_of_lem e) ∙ g) in
          omega (arith, i r.0, r.1);
      refuses =
          λ k o g.
          let r = refused_fault f (length text) (filled text out) out (sym (answer_of_lem e) ∙ g) in
          let n = j k o r in
          (n.0, n.1, ap (λ (x : Outcome ℕ (List ℕ)). x.lent) (e ∙ unless_fault f _ _ _ k o r));
    }

pub prints_plan : (p : PrintedPlan) (out : List ℕ) {new : List ℕ} {a : Answer ℕ} → PlanTyped p → outcome a new ≡ printing_plan p out → PrintsPlan p out (outcome a new)
unfolding printing_plan
prints_plan p out w e =
    prints_by (print_fault (length out) p) (plan_text p) out
    (λ s. tables_passed (length out) p s.0 ∙ room_none (length out) (plan_text p) (omega (arith, plan_fits p w)))
    (λ f. (passed (length out) p f).1) (plan_nine (length out) p) e

module _ (number place : ℕ) (out : List ℕ) {new : List ℕ} {a : Answer ℕ} (l : place < 18446744073709551616)
    (e : outcome a new ≡ printing_refusal number place out) where
  refusal_by : (sure : Type 0) → (sure → length (refusal_text number place) ≤ length out) → Prints sure (refusal_text number place) out (outcome a new)
  unfolding printing_refusal
  refusal_by sure h =
      prints_by (room_fault (length out) (length (refusal_text number place))) (refusal_text number place) out
      (λ s. room_none (length out) (refusal_text number place) (h s)) (none_room (length out) (refusal_text number place))
      (nine (length out) (refusal_text number place)) e

  pub prints_refused : number < 4294967296 → PrintsRefused number place out (outcome a new)
  prints_refused h = refusal_by _ (λ s. omega (arith, refused_fits number place h l))

  pub prints_refusal : number < 256 → PrintsRefusal number place out (outcome a new)
  prints_refusal h = refusal_by _ (λ s. omega (arith, refusal_fits number place h l))

-- ## For a caller

-- a length is what the promise says of one
pub length_within : {room : ℕ} (r : Result ℕ Refusal) → ((n : ℕ) → answer_of r ≡ finished n → n ≤ room) → (n : ℕ) → r ≡ Ok n → n ≤ room
unfolding answer_of
length_within r w n e = w n (rw e)

-- what is surely printed is not refused
pub never_refused : {k : ℕ} (r : Result ℕ Refusal) → answer_of r ≡ finished k → IsOk r
unfolding answer_of
never_refused (Ok n) f = refl
never_refused (Err why) f =
    let z : ◌≡◌ {A = ℕ} 0 1 = cc in
    absurd (omega arith)
