-- The answer of planning, and what it leaves. Assumes nothing.
use Prim.Native.Nat.{ℕ}
use mathlib.Core.List.{List}
use mathlib.Core.Path.{◌≡◌, sym, ap, ap₂, ◌∙◌}
use native.Mathlib.Omega.{arith}
use lib.ListN.{length, replicate, length-replicate}
use Rattle.refusal.specs.Fault.{none}
use Rattle.refusal.specs.Answer.{finished, outcome}
use Rattle.refusal.specs.Number.{fault_at}
use Rattle.refusal.specs.declared.Refusal.{Refusal}
use Rattle.std.specs.Prelude.{Result, Ok, Err}
use Rattle.refusal.proofs.Faults.{unless_none, unless_fault, sound_none, faulty_fault}
use Rattle.cycle.specs.declared.Cycle.{Cycle}
use Rattle.exchange.specs.Input.{Request, request}
use Rattle.exchange.specs.Planning.{Lent, lent, lengths, lengths_of, Plan, plan_fault, planning}
use Rattle.exchange.specs.Faultless.{FaultlessInput}
use Rattle.exchange.proofs.Checked.{checked}
use Rattle.exchange.proofs.Inverse.{invertible}
use Rattle.exchange.proofs.Guaranteed.{planning_is_right}
use Rattle.planner.specs.Answers.{plan_in}
use Rattle.planner.specs.Preconditions.{Checked}
use Rattle.planner.specs.ByValue.{written, Makes, PlansByValue, RefusesByValue}
use Rattle.planner.specs.declared.Work.{Work}

-- ## The call: `found` is what the checks found, and `r` what it returns

module _ (n f : ℕ) (M W s weights choices donors recipients : List ℕ) (room : ℕ) (found : Result Unit Refusal)
    (e : fault_at 0 found ≡ plan_fault (request n f M W s) (lengths (length weights) (length choices) (length donors) (length recipients) room)) where
  abbrev a : Request
  a = request n f M W s

  -- what was lent, with any table of records
  abbrev lends : List Cycle → Lent
  lends old = lent weights choices donors recipients old

  faults_are : (old : List Cycle) → length old ≡ room → fault_at 0 found ≡ plan_fault a (lengths_of (lends old))
  faults_are old h = e ∙ ap (λ (k : ℕ). plan_fault a (lengths (length weights) (length choices) (length donors) (length recipients) k)) (sym h)

  -- a refusal leaves everything as it was
  pub call_refused : (why : Refusal) → found ≡ Err why → RefusesByValue a lends lends room why
  unfolding planning
  call_refused why g old h =
      planning_is_right n f M W s (lends old) _ (sym (unless_fault _ _ _ _ _ _ (faulty_fault 0 found (faults_are old h) why g)))

  -- a plan is made
  module _ (g : found ≡ (Ok tt)) where
    sound : (old : List Cycle) → length old ≡ room → plan_fault a (lengths_of (lends old)) ≡ none
    sound old h = sound_none 0 found (faults_are old h) g

    -- what that says does not depend on what the records held
    some : List Cycle
    some = replicate room (record { first = 0; second = 0; third = 0 })

    some_long : length some ≡ room
    unfolding some
    some_long = length-replicate room _

    faultless : FaultlessInput a (lends some)
    faultless = checked a (lends some) (sound some some_long)

    pub call_asks : Checked a weights choices donors recipients
    call_asks =
        let i = faultless in
        record {
          readable = record { few = i.few; compatibility = i.long.compatibility; points = i.long.points; zero_or_one = i.compatible.zero_or_one };
          shuffled = record { long = i.long.shuffle; pairs = (invertible n s i.long.shuffle i.each_once).pair_below };
          each_once = i.each_once;
          in_weights = i.long.weights;
          in_choices = i.long.choices;
          in_donors = i.long.donors;
          in_recipients = i.long.recipients;
        }

    module _ (r : Work) (left : List Cycle → Lent) (er : Makes a lends left r) where
      made_equal : (old : List Cycle) → length old ≡ room → outcome (finished (plan_in r.plan)) (left (written r old)) ≡ planning a (lends old)
      unfolding planning
      made_equal old h =
          ap₂ (λ (x : Plan) (t : Lent). outcome (finished x) t) er.made (er.leaves old)
          ∙ sym (unless_none _ _ _ _ (sound old h))

      pub call_made : PlansByValue a lends left room r
      call_made =
          record {
            held = omega (arith, er.few, faultless.few);
            fits = omega (arith, er.few, faultless.long.records, some_long);
            plans = λ old h. planning_is_right n f M W s (lends old) _ (made_equal old h);
          }
