-- What is promised of answering. Assumes nothing.
use mathlib.Core.Path.{◌≡◌, refl, sym, ap, ◌∙◌}
use mathlib.Core.List.{List, map}
use Prim.Native.Nat.{ℕ, ◌≤◌}
use native.Mathlib.Omega.{arith}
use Rattle.laws.specs.Below.{table}
use Rattle.laws.proofs.Below.{get_or-table}
use Rattle.refusal.specs.Fault.{Fault, none, fault, ◌then◌}
use Rattle.refusal.specs.Answer.{finished}
use Rattle.refusal.proofs.Faults.{then_none, none_then, by_then}
use Rattle.pool.specs.Pool.{Pair}
use Rattle.pool.specs.Points.{Points, points_of}
use Rattle.pool.specs.Sheet.{version_in, pairs_in, point_at, pair_at, shuffle_at}
use Rattle.pool.specs.Faults.{sheet_fault, room_fault}
use Rattle.pool.specs.Faultless.{Faultless, FaultlessSheet}
use Rattle.pool.proofs.Reading.{room_none, room_passed, room_fault_lem, sheet_none, sheet_passed, sheet_pool, sheet_fault_lem}
use Rattle.donation.specs.Compatibility.{compatibility}
use Rattle.donation.specs.Weight.{weight}
use Rattle.donation.proofs.Compatible.{compatibility-most}
use Rattle.donation.proofs.Points.{present_weighs}
use Rattle.graph.specs.Graph.{Graph}
use Rattle.weighing.specs.Promises.{Plannable}
use Rattle.weighing.proofs.Promised.{rightly}
use Rattle.exchange.specs.Subsets.{entry, pairs_at}
use Rattle.exchange.specs.Resolution.{recipient_table, donor_table}
use Rattle.exchange.specs.Input.{Input, no_floor, request}
use Rattle.exchange.specs.Planning.{planned_by, plan_from}
use Rattle.exchange.specs.Algorithm1 as Algorithm1
use Rattle.exchange.specs.Faultless.{Compatibility, WeightyTables}
use Rattle.exchange.specs.Promises.{ExecutableWeighs}
use Rattle.exchange.proofs.Inverse.{Invertible}
use Rattle.exchange.proofs.Charged.{planned_apart}
use Rattle.exchange.proofs.Planned.{planned-set, rival_factor}
use Rattle.exchange.proofs.Weightless.{weighty_weighs}
use Rattle.exchange.proofs.Credited.{planned_credits}
use Rattle.exchange.proofs.Tallied.{tallied}
use Rattle.exchange.proofs.Shuffled.{same_cycles}
use Rattle.exchange.proofs.Partners.{algorithm_partners}
use Rattle.exchange.proofs.Checked.{answers_rightly, sound_tables_pass_ten_and_seventeen}
use Rattle.printout.specs.Printed.{PrintedPlan, plan_text, refusal_text}
use Rattle.answers.specs.Most.{most}
use Rattle.answers.specs.Answering.{plan_by, pool_input, printed_plan_of, points_on, or_refusal, answer_text, putting, answering}
use Rattle.answers.specs.Promises.{PlannableIsPlanned, PlannablePassesTenAndSeventeen, BuiltIsPlanned, PlanGuarantee, SheetPlanned, AnswerFault, sheet, too_many, AnsweringIsRight}
use Rattle.answers.proofs.Seated.{shuffle_seated}

module _ (q : Points) (n : ℕ) (g : Graph) (z : Plannable q n g) where
  pub plannable_compatible : Compatibility n g.compatibilities
  unfolding entry
  plannable_compatible = record { zero_or_one = z.zero_or_one; own = z.own_compatibility }

  pub plannable_weighty : WeightyTables n g.compatibilities g.weights
  unfolding entry
  plannable_weighty = z.none_weightless

pub plannable_is_planned : PlannableIsPlanned
plannable_is_planned q n floor g s t few z low once long =
    (answers_rightly (request n floor _ _ s) t).accepts
    (record { few = few; low = low; long = long; each_once = once; compatible = plannable_compatible q n g z; weighty = plannable_weighty q n g z })

pub plannable_passes_ten_and_seventeen : PlannablePassesTenAndSeventeen
plannable_passes_ten_and_seventeen q n floor g s t z k place e =
    sound_tables_pass_ten_and_seventeen (request n floor _ _ s) t (plannable_compatible q n g z) (plannable_weighty q n g z) k place e

pub built_is_planned : BuiltIsPlanned
built_is_planned v n floor points f old g s t built left low once long =
    let w = rightly v n points f old (finished tt) g (λ i. record { answer = sym built i; lent = left i }) in
    plannable_is_planned _ n floor g s t (w.accepted refl).0.few (w.plannable refl) low once long

-- ## The printed plan

module _ (version : ℕ) (own : ℕ → ℕ) (n : ℕ) (pair : ℕ → Pair) (s : ℕ → ℕ) (w : Faultless version own n pair s) where
  abbrev points : Points
  points = points_of version own

  abbrev q : Input
  q = pool_input points n pair s

  abbrev m : ℕ → ℕ → ℕ
  m = compatibility pair

  abbrev v : ℕ → ℕ → ℕ
  v = weight points pair

  seated : Invertible n (table n s)
  seated = shuffle_seated version own n pair s w

  same : planned_by q ≡ map (pairs_at (table n s)) (Algorithm1.chosen_cycles q)
  same = same_cycles no_floor 3 n m v (table n s)

  partners : Algorithm1.Partners q (donor_table n (planned_by q)) (recipient_table n (planned_by q))
  unfolding donor_table recipient_table
  partners = rw same
      (algorithm_partners q (rw same at (planned_apart no_floor 3 n m v (table n s) seated)) _ _ (λ i h. get_or-table n _ 0 i h) (λ i h. get_or-table n _ 0 i h))

  none_weightless_lem : ExecutableWeighs q
  none_weightless_lem = weighty_weighs q (λ i j _ _ h. present_weighs points pair i j w.points h)

  plan_guarantee : PlanGuarantee q (printed_plan_of points n pair s)
  unfolding printed_plan_of plan_by plan_from
  plan_guarantee =
      record {
        planned = planned_by q;
        exchanges = planned-set no_floor 3 n m v (table n s) seated (λ i j _ _. compatibility-most pair i j);
        number = refl;
        weighs = refl;
        none_weightless = none_weightless_lem;
        factor = λ cs h. rival_factor no_floor 3 n m v (table n s) seated cs h (none_weightless_lem.set refl cs h);
        credit = planned_credits no_floor 3 n m v (table n s) seated (omega arith) (λ i j _ _. compatibility-most pair i j) none_weightless_lem;
        counts = tallied no_floor n m v (table n s);
        partners = partners;
        cycles = same;
      }

-- ## The call

module _ (b : List ℕ) where
  -- the plan of the pool that b says
  abbrev plan : PrintedPlan
  plan = printed_plan_of (points_on b) (pairs_in b) (pair_at b) (shuffle_at b (pairs_in b))

  abbrev found : Fault
  found = sheet_fault b then room_fault most (pairs_in b)

  plan_text_lem : FaultlessSheet b → pairs_in b ≤ most → answer_text b ≡ plan_text plan
  unfolding answer_text or_refusal
  plan_text_lem s few = ap (λ (f : Fault). or_refusal f (plan_text plan)) (none_then _ _ (sheet_none b s) ∙ room_none most (pairs_in b) few)

  sheet_planned : FaultlessSheet b → SheetPlanned b plan
  unfolding printed_plan_of plan_by
  sheet_planned s = record { pairs = refl; ids = refl; guarantee = plan_guarantee (version_in b) (point_at b) (pairs_in b) (pair_at b) (shuffle_at b (pairs_in b)) (sheet_pool b s) }

  answer_fault : (k o : ℕ) → found ≡ fault k o → AnswerFault b k o
  answer_fault k o = by_then (AnswerFault b) (sheet_fault b) (room_fault most (pairs_in b))
      (λ j p e. sheet j p (sheet_fault_lem b j p e))
      (λ e. room_fault_lem (AnswerFault b) most (pairs_in b) (λ h. too_many (sheet_passed b e) h)) k o

  refusal_text_lem : (FaultlessSheet b → pairs_in b ≤ most → ⊥) → (k : ℕ) × (place : ℕ) × AnswerFault b k place × (answer_text b ≡ refusal_text k place)
  unfolding answer_text or_refusal
  refusal_text_lem unfit = go found refl
    where
      go : (f : Fault) → found ≡ f → (k : ℕ) × (place : ℕ) × AnswerFault b k place × (or_refusal f (plan_text plan) ≡ refusal_text k place)
      go none e = absurd (unfit (sheet_passed b (then_none _ _ e).0) (room_passed most (pairs_in b) (then_none _ _ e).1))
      go (fault k o) e = (k, o, answer_fault k o e, refl)

pub answering_is_right : AnsweringIsRight
unfolding answering
answering_is_right b out o e =
    record {
      equal = e;
      plans = λ s few. (plan b, sheet_planned b s, e ∙ ap (λ (t : List ℕ). putting t out) (plan_text_lem b s few));
      refuses = λ unfit. let r = refusal_text_lem b unfit in (r.0, r.1, r.2, e ∙ ap (λ (t : List ℕ). putting t out) r.3);
    }
