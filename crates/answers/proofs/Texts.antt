-- A text that is surely printed fills the buffer's start. Assumes nothing.
use mathlib.Core.Path.{◌≡◌, sym, ap, ◌∙◌}
use mathlib.Core.List.{List, ◌++◌}
use Prim.Native.Nat.{ℕ, ◌≤◌}
use native.Mathlib.Omega.{arith}
use lib.ListN.{length, drop, length-append}
use Rattle.std.specs.Prelude.{Result, Ok}
use Rattle.std.specs.Result.{IsOk}
use Rattle.laws.specs.Lent.{filled}
use Rattle.refusal.specs.Fault.{Fault}
use Rattle.refusal.specs.Answer.{Answer, Outcome, outcome, finished, unless}
use Rattle.refusal.proofs.Faults.{unless_none, finished_none}
use Rattle.refusal.specs.declared.Refusal.{Refusal}
use Rattle.printout.specs.Printed.{PrintedPlan, plan_text, refusal_text}
use Rattle.printout.specs.Calls.{printing_plan, printing_refusal}
use Rattle.printout.specs.Answers.{answer_of}
use Rattle.partners.specs.Preconditions.{PlanTablesHold}
use Rattle.printout.specs.Promises.{plan_room, PrintsPlan, PrintsRefusal}
use Rattle.printout.proofs.Answered.{never_refused}
use Rattle.answers.specs.Most.{most}
use Rattle.answers.specs.Answering.{putting}

-- an answer of printing that is surely the text's length
module _ (f : Fault) (text out new : List ℕ) (r : Result ℕ Refusal) (e : outcome (answer_of r) new ≡ unless f (length text) (filled text out) out)
    (sure : answer_of r ≡ finished (length text)) where
  faultless : unless f (length text) (filled text out) out ≡ putting text out
  faultless =
      unless_none f _ _ out
      (finished_none f _ _ out (sym (ap (λ (o : Outcome ℕ (List ℕ)). o.answer) e) ∙ sure)).0

  pub printed : (k : ℕ) → r ≡ Ok k → outcome (finished k) new ≡ putting text out
  unfolding answer_of
  printed k g = ap (λ (p : Result ℕ Refusal). outcome (answer_of p) new) (sym g) ∙ e ∙ faultless

-- a buffer of 1,458 bytes has room for a refusal, and for a plan of at most 40 pairs
module _ (out new : List ℕ) (l : length out ≡ plan_room most) (r : Result ℕ Refusal) where
  module _ (number place : ℕ) (e : outcome (answer_of r) new ≡ printing_refusal number place out) (w : PrintsRefusal number place out (outcome (answer_of r) new)) where
    refusal_sure : answer_of r ≡ finished (length (refusal_text number place))
    refusal_sure = w.prints (omega arith)

    pub refusal_printed : (k : ℕ) → r ≡ Ok k → outcome (finished k) new ≡ putting (refusal_text number place) out
    unfolding printing_refusal
    refusal_printed = printed _ (refusal_text number place) out new r e refusal_sure

    pub refusal_surely : IsOk r
    refusal_surely = never_refused r refusal_sure

  module _ (p : PrintedPlan) (e : outcome (answer_of r) new ≡ printing_plan p out) (w : PrintsPlan p out (outcome (answer_of r) new))
      (h : PlanTablesHold p.pairs p.ids p.donors p.recipients) (few : p.pairs ≤ most) where
    plan_sure : answer_of r ≡ finished (length (plan_text p))
    plan_sure = w.prints (h, omega arith)

    pub plan-printed : (k : ℕ) → r ≡ Ok k → outcome (finished k) new ≡ putting (plan_text p) out
    unfolding printing_plan
    plan-printed = printed _ (plan_text p) out new r e plan_sure

    pub plan_surely : IsOk r
    plan_surely = never_refused r plan_sure

-- what was put into a buffer is no longer than it
pub put_fits : (text out new : List ℕ) (k : ℕ) → outcome (finished k) new ≡ putting text out → k ≤ length new
unfolding filled
put_fits text out new k e =
    let answers : ◌≡◌ {A = Answer ℕ} (finished k) (finished (length text)) = ap (λ (o : Outcome ℕ (List ℕ)). o.answer) e in
    let size : k ≡ length text = cc in
    let whole : length new ≡ length (text ++ drop (length text) out) = ap (λ (o : Outcome ℕ (List ℕ)). length o.lent) e in
    omega (arith, size, whole, length-append text (drop (length text) out))
