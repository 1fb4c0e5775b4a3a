-- Tables that planning does not refuse, and what it makes of them. Assumes nothing.
use mathlib.Core.Path.{◌≡◌, sym, ap, ◌∙◌}
use mathlib.Core.List.{List}
use Prim.Native.Nat.{ℕ, ◌*◌, ◌≤◌, ◌<◌}
use native.Mathlib.Omega.{arith}
use native.Mathlib.Nat.{mul-le-mul}
use lib.ListN.{length, take}
use Rattle.std.specs.Prelude.{Result, Ok}
use Rattle.std.specs.Result.{IsOk}
use Rattle.laws.specs.Lent.{filled}
use Rattle.laws.proofs.Below.{length-table}
use Rattle.laws.proofs.Lent.{take-filled}
use Rattle.refusal.specs.Answer.{outcome, finished}
use Rattle.refusal.specs.declared.Refusal.{Refusal}
use Rattle.exchange.specs.Input.{no_floor, input, input_of, request}
use Rattle.exchange.specs.Resolution.{total, donor_table, recipient_table}
use Rattle.exchange.specs.Planning.{Plan, left_by, planned_by, plan_from}
use Rattle.exchange.proofs.Inverse.{Invertible}
use Rattle.exchange.proofs.Planned.{planned_below}
use Rattle.exchange.proofs.Unread.{left_agree, planned_agree, total_agree}
use Rattle.printout.specs.Printed as Printed
use Rattle.printout.specs.Printed.{plan_text}
use Rattle.printout.specs.Calls.{printing_plan}
use Rattle.printout.specs.Answers.{answer_of as Printout·answerOf}
use Rattle.partners.specs.Preconditions.{PlanTablesHold}
use Rattle.printout.specs.Promises.{plan_room, PrintsPlan}
use Rattle.planner.specs.Answers.{plan_in}
use Rattle.planner.specs.declared.Planned.{Planned}
use Rattle.answers.specs.Most.{most}
use Rattle.answers.specs.Answering.{plan_by, putting}
use Rattle.buffers.specs.Preconditions.{Partnered}
use Rattle.answers.proofs.Texts.{plan-printed, plan_surely}

-- ## Tables for 40 pairs

pub square-most : (n : ℕ) → n ≤ most → n * n ≤ 1600
square-most n l = mul-le-mul l l

-- ## The same entries have the same plan

module _ (n : ℕ) (m k w v : ℕ → ℕ → ℕ) (s : List ℕ) (sh : Invertible n s) (bits : (i j : ℕ) → i < n → j < n → m i j ≤ 1)
    (alike : (i j : ℕ) → i < n → j < n → m i j ≡ k i j) (agree : (i j : ℕ) → i < n → j < n → w i j ≡ v i j) where
  pub plan_agree : (ids : List ℕ) → plan_by ids (input n no_floor m w s) ≡ plan_by ids (input n no_floor k v s)
  unfolding plan_by plan_from
  plan_agree ids =
      let there : (i j : ℕ) → i < n → j < n → m i j ≡ 1 → w i j ≡ v i j = λ i j h l _. agree i j h l in
      let left : left_by (input n no_floor m w s) ≡ left_by (input n no_floor k v s) = left_agree n m k w v bits alike there no_floor 3 s sh in
      let cs : planned_by (input n no_floor m w s) ≡ planned_by (input n no_floor k v s) = planned_agree n m k w v bits alike there no_floor 3 s sh in
      let sum : total m w (planned_by (input n no_floor m w s)) ≡ total k v (planned_by (input n no_floor k v s)) =
      total_agree n m k w v bits alike there _ (planned_below no_floor 3 n m w s sh) ∙ ap (total k v) cs in
      λ i. Printed.printed_plan n (length (cs i)) (sum i) ids (donor_table n (cs i)) (recipient_table n (cs i)) (left i).tally.comparisons
      (left i).tally.products (left i).tally.rounds

-- ## The printed plan

-- what is filled into a table's start stands there
filled_start : (n : ℕ) (new old : List ℕ) → length new ≡ n → take n (filled new old) ≡ new
filled_start n new old e = ap (λ (k : ℕ). take k (filled new old)) (sym e) ∙ take-filled new old

module _ (n : ℕ) (M W s a b : List ℕ) (q : Planned) (d r : List ℕ) (w : Partnered (request n no_floor M W s) a b (plan_in q) d r) where
  first_donors : take n d ≡ donor_table n (planned_by (input_of (request n no_floor M W s)))
  unfolding donor_table
  first_donors = ap (take n) w.donors ∙ filled_start n (donor_table n (planned_by (input_of (request n no_floor M W s)))) a (length-table n _)

  first_recipients : take n r ≡ recipient_table n (planned_by (input_of (request n no_floor M W s)))
  unfolding recipient_table
  first_recipients = ap (take n) w.recipients ∙ filled_start n (recipient_table n (planned_by (input_of (request n no_floor M W s)))) b (length-table n _)

  length_donors : n ≡ length (take n d)
  unfolding donor_table
  length_donors = sym (ap length first_donors ∙ length-table n _)

  length_recipients : n ≡ length (take n r)
  unfolding recipient_table
  length_recipients = sym (ap length first_recipients ∙ length-table n _)

  module _ (few : n ≤ most) (ids : List ℕ) (held : n ≤ length ids) where
    abbrev made_plan : Printed.PrintedPlan
    made_plan =
        Printed.printed_plan n q.cycles q.weight ids (take n d) (take n r) q.tally.comparisons q.tally.products q.tally.rounds

    made_is : made_plan ≡ plan_by ids (input_of (request n no_floor M W s))
    unfolding plan_by
    made_is i =
        let p : Plan = w.result i in
        Printed.printed_plan n p.cycles p.weight ids (first_donors i) (first_recipients i) p.tally.comparisons p.tally.products p.tally.rounds

    module _ (out new : List ℕ) (l : length out ≡ plan_room most) (x : Result ℕ Refusal) (e : outcome (Printout·answerOf x) new ≡ printing_plan made_plan out)
        (u : PrintsPlan made_plan out (outcome (Printout·answerOf x) new)) where
      hold : PlanTablesHold n ids (take n d) (take n r)
      hold = record { ids = held; donors = omega (arith, length_donors); recipients = omega (arith, length_recipients) }

      pub made_printed : (k : ℕ) → x ≡ Ok k
          → outcome (finished k) new ≡ putting (plan_text (plan_by ids (input_of (request n no_floor M W s)))) out
      made_printed k g =
          plan-printed out new l x made_plan e u hold few k g ∙ ap (λ (p : Printed.PrintedPlan). putting (plan_text p) out) made_is

      pub made_surely : IsOk x
      made_surely = plan_surely out new l x made_plan e u hold few
