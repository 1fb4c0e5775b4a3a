-- Tables that planning does not refuse, and what it makes of them. Assumes nothing.
use mathlib.Core.Path.{◌≡◌, refl, ap, ◌∙◌}
use mathlib.Core.List.{List}
use Prim.Native.Nat.{ℕ, ◌*◌, ◌≤◌}
use native.Mathlib.Omega.{arith}
use native.Mathlib.Nat.{mul-le-mul}
use native.Mathlib.Decide.{dec_le}
use lib.ListN.{length}
use Rattle.std.specs.Prelude.{Result, Ok, Err}
use Rattle.std.specs.Result.{IsOk}
use Rattle.refusal.specs.Answer.{Outcome, outcome, finished}
use Rattle.refusal.specs.declared.Refusal.{Refusal}
use Rattle.refusal.proofs.Faults.{unless_none, finished_none}
use Rattle.exchange.specs.Subsets.{up_to_three, subset_count}
use Rattle.exchange.specs.Input.{Request, input_of, no_floor, request}
use Rattle.exchange.specs.Planning.{Lent, Plan, plan_from, filled_lent, planning}
use Rattle.exchange.specs.Faultless.{FaultlessInput}
use Rattle.exchange.specs.Promises.{PlansRightly}
use Rattle.exchange.proofs.Checked.{answers_rightly}
use Rattle.cursor.proofs.Number.{six_times_lem}
use Rattle.planner.specs.Answers as Planner
use Rattle.planner.specs.Answers.{plan_in}
use Rattle.planner.specs.declared.Planned.{Planned}
use Rattle.answers.specs.Most.{most}
use Rattle.buffers.specs.Preconditions.{FaultlessTables, Partnered}

-- ## Tables for 40 pairs

-- the subsets of at most 40 places
pub subsets-most : (n : ℕ) → n ≤ most → subset_count (up_to_three n) ≤ 10660
subsets-most n l = elim (dec_le n 39) [
  | yes k ↦ let cube : n * n * n ≤ 59319 = mul-le-mul (mul-le-mul k k) k in omega (arith, six_times_lem n)
  | no k ↦ let cube : n * n * n ≤ 64000 = mul-le-mul (mul-le-mul l l) l in omega (arith, six_times_lem n)
]

-- what is surely planned is not refused
planned_ok : {p : Plan} (x : Result Planned Refusal) → Planner.answer_of x ≡ finished p → IsOk x
unfolding Planner.answer_of
planned_ok (Ok q) e = refl
planned_ok (Err why) e =
    let z : ◌≡◌ {A = ℕ} 0 1 = cc in
    absurd (omega arith)

module _ (n : ℕ) (M W s : List ℕ) (p : FaultlessTables (request n no_floor M W s)) (t : Lent) where
  -- lent tables for 40 pairs
  pub record Roomy : Type 0 where
    pub weights : 10660 ≤ length t.weights
    pub choices : 20 ≤ length t.choices
    pub donors : n ≤ length t.donors
    pub recipients : n ≤ length t.recipients
    pub records : 20 ≤ length t.records

  module _ (r : Roomy) where
    abbrev a : Request
    a = request n no_floor M W s

    accepted : FaultlessInput a t
    accepted =
        record {
          few = omega (arith, p.few);
          low = p.low;
          long =
              record {
                compatibility = p.compatibilities;
                points = p.weights;
                shuffle = p.shuffle;
                weights = omega (arith, subsets-most n p.few, r.weights);
                choices = omega (arith, p.few, r.choices);
                donors = r.donors;
                recipients = r.recipients;
                records = omega (arith, p.few, r.records);
              };
          each_once = p.each_once;
          compatible = p.compatible;
          weighty = p.weighty;
        }

    -- a plan is made
    planned_is : planning a t ≡ outcome (finished (plan_from (input_of a))) (filled_lent (input_of a) t)
    unfolding planning
    planned_is = unless_none _ _ _ _ (finished_none _ _ _ _ ((answers_rightly a t).accepts accepted).1).0

    -- ## The call, by its answer

    module _ (x : Result Planned Refusal) (u : Lent) (e : PlansRightly a t (outcome (Planner.answer_of x) u)) where
      outcome_is : outcome (Planner.answer_of x) u ≡ outcome (finished (plan_from (input_of a))) (filled_lent (input_of a) t)
      outcome_is = e.equal ∙ planned_is

      answer_is : Planner.answer_of x ≡ finished (plan_from (input_of a))
      answer_is = ap (λ (o : Outcome Plan Lent). o.answer) outcome_is

      pub never_refused : IsOk x
      never_refused = planned_ok x answer_is

      pub partnered : (q : Planned) → x ≡ Ok q → Partnered a t.donors t.recipients (plan_in q) u.donors u.recipients
      unfolding Planner.answer_of filled_lent
      partnered q h =
          let i = rw h at answer_is in
          record {
            result = cc;
            donors = ap (λ (o : Outcome Plan Lent). o.lent.donors) outcome_is;
            recipients = ap (λ (o : Outcome Plan Lent). o.lent.recipients) outcome_is;
          }
