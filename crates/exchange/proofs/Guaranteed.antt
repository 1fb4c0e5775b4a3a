-- Every plan made meets the guarantee. Assumes nothing.
use Prim.Native.Nat.{ℕ, suc, ◌-◌, ◌≤◌, ◌<◌}
use mathlib.Core.Bool.{Bool, true, false, cond}
use mathlib.Core.List.{List, [], ◌∷◌, map, flat_map}
use mathlib.Core.Path.{◌≡◌, refl, sym, ap, ap₂, subst, ◌∙◌}
use native.Mathlib.Omega.{arith}
use lib.Dec.{ltb}
use lib.ListN.{length, get_or, take, drop, length-map, length-append, length-drop, get_or-append}
use lib.Seq.{take_at}
use borrow.Author.Tests.{eq-eqb, ne_eqb}
use Rattle.laws.specs.Below.{Some}
use Rattle.laws.proofs.Below.{length-table, get_or-table}
use Rattle.laws.specs.Lent.{filled}
use Rattle.refusal.specs.Fault.{Fault, none, fault}
use Rattle.refusal.specs.Answer.{Outcome, finished, unless}
use Rattle.greedy.specs.Places.{meets}
use Rattle.greedy.specs.Tally.{tally}
use Rattle.greedy.proofs.Counts.{NoneTwice}
use Rattle.greedy.specs.Promises.{Remains}
use Rattle.greedy.proofs.Bound.{subset_met}
use Rattle.greedy.proofs.Remaining.{met_at, weights_remain, remains_alike}
use Rattle.greedy.proofs.Tallied.{rounds-length}
use Rattle.exchange.specs.Subsets.{subsets, order, subset_count, edges, entry, pairs_at, best_cycle, subset_weight, evaluation_tally}
use Rattle.exchange.specs.Resolution.{resolved, record_of, pairs_of, recipient_by, donor_by, recipient_table, donor_table, total}
use Rattle.exchange.specs.Input.{Input, Request, input_with, input_of, request}
use Rattle.exchange.specs.Planning.{Lent, Plan, round_count, lengths_of, plan_fault, left_by, planned_by, plan_from, filled_lent, planning}
use Rattle.exchange.specs.Algorithm1 as Algorithm1
use Rattle.exchange.specs.Rivals.{planned, Each, Exchange, ExchangeSet}
use Rattle.exchange.specs.Credit.{CreditsTwos, EveryPlanCreditsTwos}
use Rattle.exchange.specs.Faultless.{FaultlessInput}
use Rattle.exchange.specs.Promises.{ExecutableWeighs, Guarantee, Guaranteed, PlanningIsRight, SameTally, SameLengths, LengthsStay}
use Rattle.exchange.proofs.Inverse.{Invertible, invertible}
use Rattle.exchange.proofs.Charged.{weights_of, weight_at_lem, family, joined, planned_apart}
use Rattle.exchange.proofs.Planned.{planned-set, planned_heavy, planned_below, rival_factor}
use Rattle.exchange.proofs.Credited.{planned_credits}
use Rattle.exchange.proofs.Weightless.{accepted_weighs}
use Rattle.exchange.proofs.Tallied.{tallied}
use Rattle.exchange.proofs.Shuffled.{same_cycles}
use Rattle.exchange.proofs.Partners.{consistent, algorithm_partners}
use Rattle.exchange.proofs.Checked.{checked, finished_is, answers_rightly}

-- ---- a cycle and its record

-- a record has three pair numbers
module _ (l n : ℕ) (m : ℕ → ℕ → ℕ) (small : l ≤ 3) where
  record_pairs : (c : List ℕ) → Exchange l n m c → pairs_of n (record_of n c) ≡ c
  unfolding pairs_of record_of
  record_pairs [] h = absurd (omega (arith, h.least))
  record_pairs (a ∷ []) h = absurd (omega (arith, h.least))
  record_pairs (a ∷ b ∷ []) h = rw (eq-eqb n n refl)
  record_pairs (a ∷ b ∷ c ∷ []) h = rw (ne_eqb c n (omega (arith, h.pool.1.1.0)))
  record_pairs (a ∷ b ∷ c ∷ d ∷ e) h = absurd (omega (arith, h.most))

  records_pairs : (cs : List (List ℕ)) → Each (Exchange l n m) cs → map (pairs_of n) (map (record_of n) cs) ≡ cs
  records_pairs [] h = refl
  records_pairs (c ∷ cs) h = ap₂ ◌∷◌ (record_pairs c h.0) (records_pairs cs h.1)

-- ---- lent tables, read where they are filled

take-filled : {A : Type 0} (new old : List A) (k : ℕ) → length new ≡ k → take k (filled new old) ≡ new
unfolding filled
take-filled new old k e = take_at new (drop (length new) old) k e

filled_at : (new old : List ℕ) (i : ℕ) → i < length new → get_or (filled new old) i 0 ≡ get_or new i 0
unfolding filled
filled_at new old i h = get_or-append new (drop (length new) old) 0 i h

filled-length : {A : Type 0} (new old : List A) → length new ≤ length old → length (filled new old) ≡ length old
unfolding filled
filled-length new old h = omega (arith, length-append new (drop (length new) old), length-drop (length new) old)

-- no more cycles than choices
pub resolved_few : (m w : ℕ → ℕ → ℕ) (s : List ℕ) (ss : List (List ℕ)) (cs : List ℕ) → length (resolved m w s ss cs) ≤ length cs
unfolding resolved
resolved_few m w s ss [] = omega arith
resolved_few m w s ss (c ∷ cs) = go (ltb c (length ss)) (resolved_few m w s ss cs)
  where
    go : (b : Bool) → length (resolved m w s ss cs) ≤ length cs
        → length (cond b (pairs_at s (best_cycle m w s (get_or ss c [])) ∷ resolved m w s ss cs) (resolved m w s ss cs)) ≤ suc (length cs)
    go true h = omega arith
    go false h = omega arith

module _ (f l n : ℕ) (m w : ℕ → ℕ → ℕ) (s : List ℕ) where
  -- ---- as many weights as subsets, as many choices as rounds, and no more cycles

  choices_long : length (left_by (input_with f l n m w s)).choices ≡ round_count n
  unfolding left_by
  choices_long = (rounds-length f (round_count n) (subsets l n) (weights_of l n m w s) (evaluation_tally (subsets l n) (tally 0 0 0))).1

  weights_long : length (left_by (input_with f l n m w s)).weights ≡ length (subsets l n)
  unfolding left_by
  weights_long =
      (rounds-length f (round_count n) (subsets l n) (weights_of l n m w s) (evaluation_tally (subsets l n) (tally 0 0 0))).0
      ∙ length-map (subsets l n) (subset_weight m w s)

  cycles_few : length (planned_by (input_with f l n m w s)) ≤ round_count n
  unfolding planned_by
  cycles_few = omega (arith, choices_long, resolved_few m w s (subsets l n) (left_by (input_with f l n m w s)).choices)

  -- ---- so no lent table grows or shrinks

  module _ (t : Lent) (weights : length (subsets l n) ≤ length t.weights) (choices : round_count n ≤ length t.choices)
      (donors : n ≤ length t.donors) (recipients : n ≤ length t.recipients) (records : round_count n ≤ length t.records) where
    filled-lengths : SameLengths t (filled_lent (input_with f l n m w s) t)
    unfolding filled_lent donor_table recipient_table
    filled-lengths =
        let q : Input = input_with f l n m w s in
        let cs : List (List ℕ) = planned_by q in
        record {
          weights = filled-length (left_by q).weights t.weights (omega (arith, weights_long));
          choices = filled-length (left_by q).choices t.choices (omega (arith, choices_long));
          donors = filled-length (donor_table n cs) t.donors (omega (arith, length-table n (λ j. donor_by (flat_map edges cs) n j)));
          recipients = filled-length (recipient_table n cs) t.recipients (omega (arith, length-table n (λ j. recipient_by (flat_map edges cs) n j)));
          records = filled-length (map (record_of n) cs) t.records (omega (arith, length-map cs (record_of n), cycles_few));
        }

pub lengths_stay : LengthsStay
unfolding planning unless
lengths_stay a t = go (plan_fault a (lengths_of t)) refl
  where
    go : (f : Fault) → plan_fault a (lengths_of t) ≡ f → SameLengths t (unless f (plan_from (input_of a)) (filled_lent (input_of a) t) t).lent
    go none e =
        let k = (checked a t e).long in
        filled-lengths _ _ _ _ _ _ t k.weights k.choices k.donors k.recipients k.records
    go (fault k o) e = record { weights = refl; choices = refl; donors = refl; recipients = refl; records = refl }

-- ---- the guarantee

module _ (n f : ℕ) (M W s : List ℕ) (t : Lent) (k : FaultlessInput (request n f M W s) t) where
  abbrev q : Input
  q = input_of (request n f M W s)

  abbrev m : ℕ → ℕ → ℕ
  m = entry M n

  abbrev w : ℕ → ℕ → ℕ
  w = entry W n

  abbrev cs : List (List ℕ)
  cs = planned_by q

  abbrev new : Lent
  new = filled_lent q t

  abbrev chosen : List (List ℕ)
  chosen = Algorithm1.chosen_cycles q

  sh : Invertible n s
  sh = invertible n s k.long.shuffle k.each_once

  set : ExchangeSet 3 n m cs
  set = planned-set f 3 n m w s sh k.compatible.zero_or_one

  planned_is : planned n (plan_from q) new ≡ cs
  unfolding planned plan_from filled_lent
  planned_is =
      ap (map (pairs_of n)) (take-filled (map (record_of n) cs) t.records (length cs) (length-map cs (record_of n)))
      ∙ records_pairs 3 n m (omega arith) cs set.exchanges

  donors_at : (i : ℕ) → i < n → get_or new.donors i 0 ≡ donor_by (flat_map edges cs) n i
  unfolding filled_lent donor_table
  donors_at i h = filled_at (donor_table n cs) t.donors i (omega (arith, length-table n (λ j. donor_by (flat_map edges cs) n j)))
      ∙ get_or-table n (λ j. donor_by (flat_map edges cs) n j) 0 i h

  recipients_at : (i : ℕ) → i < n → get_or new.recipients i 0 ≡ recipient_by (flat_map edges cs) n i
  unfolding filled_lent recipient_table
  recipients_at i h = filled_at (recipient_table n cs) t.recipients i (omega (arith, length-table n (λ j. recipient_by (flat_map edges cs) n j)))
      ∙ get_or-table n (λ j. recipient_by (flat_map edges cs) n j) 0 i h

  cs_chosen : cs ≡ map (pairs_at s) chosen
  cs_chosen = same_cycles f 3 n m w s

  weight : (i : ℕ) → f < subset_weight m w s (get_or (order q.scope) i []) → f < get_or (weights_of 3 n m w s) i 0
  unfolding subset_weight
  weight i h = rw (weight_at_lem 3 n m w s i) h

  left : (i : ℕ) → i < subset_count q.scope
      → Remains (order q.scope) new.choices (round_count n - 1) i (subset_weight m w s (get_or (order q.scope) i [])) (get_or new.weights i 0)
  unfolding filled_lent left_by subset_weight
  left i h =
      let ss : List (List ℕ) = order q.scope in
      let cs : List ℕ = (left_by q).choices in
      rw (filled_at (left_by q).weights t.weights i (omega (arith, weights_long f 3 n m w s)))
      (remains_alike ss cs new.choices (round_count n - 1) i _ _ (λ k l. sym (filled_at cs t.choices k (omega (arith, choices_long f 3 n m w s))))
      (rw (weight_at_lem 3 n m w s i) at (weights_remain f (round_count n) ss (weights_of 3 n m w s) (evaluation_tally ss (tally 0 0 0)) i)))

  met : (i : ℕ) → f < subset_weight m w s (get_or (order q.scope) i [])
      → Some (round_count n) (λ j. meets (get_or (order q.scope) i []) (get_or (order q.scope) (get_or new.choices j 0) []) ≡ true)
  unfolding filled_lent left_by
  met i h =
      let ss : List (List ℕ) = order q.scope in
      let found = met_at ss (get_or ss i []) (left_by q).choices
      (subset_met f n (round_count n) ss (weights_of 3 n m w s) (evaluation_tally ss (tally 0 0 0)) (family 3 n m w s) (omega arith) i (weight i h)) in
      record {
        at = found.0;
        below = omega (arith, found.1, choices_long f 3 n m w s);
        there = ap (λ (c : ℕ). meets (get_or ss i []) (get_or ss c [])) (filled_at (left_by q).choices t.choices found.0 found.1) ∙ found.2;
      }

  guarantee : Guarantee q (plan_from q) new
  unfolding plan_from
  guarantee = record {
    exchanges = rw planned_is set;
    above = rw planned_is (planned_heavy f 3 n m w s sh);
    weight = ap (total m w) (sym planned_is);
    factor = λ rivals h above. rival_factor f 3 n m w s sh rivals h above;
    none_weightless = weighs;
    factor_all = λ e rivals h. rival_factor f 3 n m w s sh rivals h (weighs.set e rivals h);
    credit = subst (λ (c : List (List ℕ)). CreditsTwos q (plan_from q).weight c) (sym planned_is) (planned_credits f 3 n m w s sh (omega arith) k.compatible.zero_or_one weighs);
    tally = tallied f n m w s;
    partners = partners;
    cycles = planned_is ∙ cs_chosen;
    consistent = rw planned_is (consistent n cs (planned_below f 3 n m w s sh) once new.donors new.recipients donors_at recipients_at);
    met = met;
    left = left;
  }
    where
      weighs : ExecutableWeighs q
      weighs = accepted_weighs (request n f M W s) t k

      once : NoneTwice (joined cs)
      once = planned_apart f 3 n m w s sh

      partners : Algorithm1.Partners q new.donors new.recipients
      partners = algorithm_partners q (rw cs_chosen at once) new.donors new.recipients (rw cs_chosen at donors_at) (rw cs_chosen at recipients_at)

pub guaranteed : Guaranteed
unfolding planning
guaranteed n f M W s t p e =
    let a : Request = request n f M W s in
    let done = finished_is (plan_from (input_of a)) (filled_lent (input_of a) t) t (plan_fault a (lengths_of t)) p e in
    rw (done.left, ← done.result) (guarantee n f M W s t (checked a t done.faultless))

pub every_plan_credits_twos : EveryPlanCreditsTwos
every_plan_credits_twos n f M W s t p e = (guaranteed n f M W s t p e).credit

-- the records of a made plan are those of its cycles
pub planned_by_lem : (n f : ℕ) (M W s : List ℕ) (t : Lent) (p : Plan) → (planning (request n f M W s) t).answer ≡ finished p
    → planned n p (planning (request n f M W s) t).lent ≡ planned_by (input_of (request n f M W s))
unfolding planning
planned_by_lem n f M W s t p e =
    let a : Request = request n f M W s in
    let done = finished_is (plan_from (input_of a)) (filled_lent (input_of a) t) t (plan_fault a (lengths_of t)) p e in
    rw (done.left, ← done.result) (planned_is n f M W s t (checked a t done.faultless))

pub planning_is_right : PlanningIsRight
planning_is_right n f M W s t o e =
    record {
      equal = e;
      answered = rw e (answers_rightly (request n f M W s) t);
      guarantee = λ p g. rw e (guaranteed n f M W s t p (ap (λ (x : Outcome Plan Lent). x.answer) (sym e) ∙ g));
    }

pub same_tallies : SameTally
same_tallies n f M W s t p f' M' W' s' t' p' e e' =
    (guaranteed n f M W s t p e).tally.sums ∙ sym (guaranteed n f' M' W' s' t' p' e').tally.sums
