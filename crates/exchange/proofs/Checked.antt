-- What planning has checked, where it does not refuse, and what every answer of it says. Assumes nothing.
use Prim.Native.Nat.{ℕ, ◌≤◌, ◌<◌}
use mathlib.Core.Bool.{Bool, false, not}
use mathlib.Core.List.{List}
use mathlib.Core.Path.{◌≡◌, refl, ap, ◌∙◌}
use native.Mathlib.Omega.{arith}
use lib.Dec.{eqb, ltb}
use lib.ListN.{length}
use borrow.Author.Tests.{ltb-true, ltb-false, le-ltb, eqb-true, eqb-false, eq-eqb, not-false}
use Rattle.laws.specs.Below.{either, any_below}
use Rattle.laws.proofs.Below.{true_false, and_true, and_never, either_false, any_none, none_any, any_found}
use Rattle.refusal.specs.Fault.{Fault, none, fault, refuse}
use Rattle.refusal.specs.Answer.{Outcome, finished, unless}
use Rattle.refusal.proofs.Faults.{refuse_none, none_refuse, then_none, none_then, by_refuse, by_then, unless_none, unless_fault, finished_none, refused_fault}
use Rattle.pool.specs.Faults.{shuffle_fault}
use Rattle.pool.proofs.Pairs.{shuffle_none, shuffle_passed, shuffle_fault_lem}
use Rattle.pool.proofs.Reading.{room_none, room_passed, room_fault_lem}
use Rattle.exchange.specs.Subsets.{entry}
use Rattle.exchange.specs.Input.{Request}
use Rattle.exchange.specs.Planning.{Lent, Plan, most_floor, lengths_of, table_fault, weightless, edge_fault, short_to_read, short_to_fill, plan_fault, planning}
use Rattle.exchange.specs.Promises.{AnswersRightly, SoundTablesPassTenAndSeventeen}
use Rattle.exchange.specs.Faultless.{LongEnough, Compatibility, WeightyTables, FaultlessInput, PlanFault, too_many_pairs, floor_too_high, too_short, not_a_shuffle, not_compatibility, weightless_edge}

module _ (n : ℕ) (M : List ℕ) where
  -- ## 10

  -- a row's test
  row : ℕ → Bool
  row i = either (any_below n (λ j. ltb 1 (entry M n i j))) (not (eqb (entry M n i i) 0))

  no_row : Compatibility n M → any_below n row ≡ false
  unfolding row either
  no_row h =
      none_any n row
      (λ i k. rw (none_any n (λ j. ltb 1 (entry M n i j)) (λ j q. le-ltb 1 (entry M n i j) (h.zero_or_one i j k q)), eq-eqb _ 0 (h.own i k)))

  table_none : Compatibility n M → table_fault n M ≡ none
  unfolding table_fault row
  table_none h = none_refuse 10 0 _ (no_row h)

  pub table_passed : table_fault n M ≡ none → Compatibility n M
  unfolding table_fault
  table_passed e =
      let rows : (i : ℕ) → i < n → either (any_below n (λ j. ltb 1 (entry M n i j))) (not (eqb (entry M n i i) 0)) ≡ false =
      any_none n _ (refuse_none 10 0 _ e) in
      record {
        zero_or_one = λ i j h k. ltb-false 1 (entry M n i j) (any_none n _ (either_false _ _ (rows i h)).0 j k);
        own = λ i h. eqb-true _ 0 (not-false _ (either_false _ _ (rows i h)).1);
      }

  table_fault_lem : (P : ℕ → ℕ → Type 0) → ((Compatibility n M → ⊥) → P 10 0) → (k o : ℕ) → table_fault n M ≡ fault k o → P k o
  unfolding table_fault row
  table_fault_lem P ten = by_refuse P 10 0 _ (λ e. ten (λ h. true_false e (no_row h)))

  -- ## 17

  module _ (W : List ℕ) where
    pub edge_none : WeightyTables n M W → edge_fault n M W ≡ none
    unfolding edge_fault
    edge_none h =
        none_refuse 17 0 _
        (none_any n (λ i. any_below n (weightless n M W i)) (λ i k. none_any n (weightless n M W i) (λ j q.
        and_never (eqb (entry M n i j) 1) (eqb (entry W n i j) 0) (λ there e.
        omega (arith, h i j k q (eqb-true (entry M n i j) 1 there), eqb-true (entry W n i j) 0 e)))))

    edge_passed : edge_fault n M W ≡ none → WeightyTables n M W
    unfolding edge_fault
    edge_passed e i j k q there =
        let none : weightless n M W i j ≡ false = any_none n _ (any_none n _ (refuse_none 17 0 _ e) i k) j q in
        omega (arith, eqb-false (entry W n i j) 0 (rw (eq-eqb _ 1 there) at none))

    edge_fault_lem : (P : ℕ → ℕ → Type 0)
        → ((i j : ℕ) → i < n → j < n → entry M n i j ≡ 1 → entry W n i j ≡ 0 → P 17 0) → (k o : ℕ) → edge_fault n M W ≡ fault k o → P k o
    unfolding edge_fault
    edge_fault_lem P seventeen = by_refuse P 17 0 _ (λ e.
        let row = any_found n _ e in
        let at = any_found n _ row.2 in
        let both = and_true _ _ at.2 in
        seventeen row.0 at.0 row.1 at.1 (eqb-true _ 1 both.0) (eqb-true _ 0 both.1))

    pub edge_seventeen : (WeightyTables n M W → ⊥) → edge_fault n M W ≡ fault 17 0
    edge_seventeen h = go (edge_fault n M W) refl
      where
        go : (f : Fault) → edge_fault n M W ≡ f → f ≡ fault 17 0
        go none e = absurd (h (edge_passed e))
        go (fault k o) e = edge_fault_lem (λ k o. fault k o ≡ fault 17 0) (λ i j a b there z. refl) k o e

module _ (r : Request) (t : Lent) where
  n : ℕ
  n = r.scope.pairs

  M : List ℕ
  M = r.compatibilities

  W : List ℕ
  W = r.weights

  -- ## 9

  to_read : Fault
  to_read = short_to_read n (length M) (length r.weights) (length r.shuffle)

  to_fill : Fault
  to_fill = short_to_fill r.scope (lengths_of t)

  read_none : LongEnough r t → to_read ≡ none
  unfolding n M to_read short_to_read
  read_none h =
      none_then _ _ (room_none _ _ h.compatibility) ∙ none_then _ _ (room_none _ _ h.points) ∙ room_none _ _ h.shuffle

  fill_none : LongEnough r t → to_fill ≡ none
  unfolding to_fill short_to_fill
  fill_none h =
      none_then _ _ (room_none _ _ h.weights)
      ∙ none_then _ _ (room_none _ _ h.choices)
      ∙ none_then _ _ (room_none _ _ h.donors)
      ∙ none_then _ _ (room_none _ _ h.recipients)
      ∙ room_none _ _ h.records

  long_passed : to_read ≡ none → to_fill ≡ none → LongEnough r t
  unfolding n M to_read to_fill short_to_read short_to_fill
  long_passed e f =
      let a = then_none _ _ e in
      let b = then_none _ _ a.1 in
      let c = then_none _ _ f in
      let d = then_none _ _ c.1 in
      let g = then_none _ _ d.1 in
      let h = then_none _ _ g.1 in
      record {
        compatibility = room_passed _ _ a.0;
        points = room_passed _ _ b.0;
        shuffle = room_passed _ _ b.1;
        weights = room_passed _ _ c.0;
        choices = room_passed _ _ d.0;
        donors = room_passed _ _ g.0;
        recipients = room_passed _ _ h.0;
        records = room_passed _ _ h.1;
      }

  module _ (P : ℕ → ℕ → Type 0) (nine : (LongEnough r t → ⊥) → P 9 0) where
    read_fault : (k o : ℕ) → to_read ≡ fault k o → P k o
    unfolding n M to_read short_to_read
    read_fault =
        by_then P _ _ (room_fault_lem P _ _ (λ l. nine (λ h. omega (arith, l, h.compatibility))))
        (λ _. by_then P _ _ (room_fault_lem P _ _ (λ l. nine (λ h. omega (arith, l, h.points))))
        (λ _. room_fault_lem P _ _ (λ l. nine (λ h. omega (arith, l, h.shuffle)))))

    fill_fault : (k o : ℕ) → to_fill ≡ fault k o → P k o
    unfolding to_fill short_to_fill
    fill_fault =
        by_then P _ _ (room_fault_lem P _ _ (λ l. nine (λ h. omega (arith, l, h.weights))))
        (λ _. by_then P _ _ (room_fault_lem P _ _ (λ l. nine (λ h. omega (arith, l, h.choices))))
        (λ _. by_then P _ _ (room_fault_lem P _ _ (λ l. nine (λ h. omega (arith, l, h.donors))))
        (λ _. by_then P _ _ (room_fault_lem P _ _ (λ l. nine (λ h. omega (arith, l, h.recipients))))
        (λ _. room_fault_lem P _ _ (λ l. nine (λ h. omega (arith, l, h.records)))))))

  -- ## All six

  -- the fault told is there, and none that is checked before it
  plan_fault_lem : (k o : ℕ) → plan_fault r (lengths_of t) ≡ fault k o → (o ≡ 0) × PlanFault r t k
  unfolding plan_fault n M W to_read to_fill
  plan_fault_lem =
      let P : ℕ → ℕ → Type 0 = λ k o. (o ≡ 0) × PlanFault r t k in
      by_then P (refuse 4 0 (ltb 200 n)) _ (by_refuse P 4 0 _ (λ e. (refl, too_many_pairs (ltb-true _ _ e))))
      (λ a. let few : n ≤ 200 = ltb-false _ _ (refuse_none _ _ _ a) in
      by_then P (refuse 13 0 (ltb most_floor r.floor)) _ (by_refuse P 13 0 _ (λ e. (refl, floor_too_high few (ltb-true _ _ e))))
      (λ b. let low : r.floor ≤ most_floor = ltb-false _ _ (refuse_none _ _ _ b) in
      by_then P to_read _ (read_fault P (λ h. (refl, too_short few low h)))
      (λ c. by_then P to_fill _ (fill_fault P (λ h. (refl, too_short few low h)))
      (λ d. let long = long_passed c d in
      by_then P (shuffle_fault 0 n _) _ (shuffle_fault_lem 0 n _ P (λ h. (refl, not_a_shuffle few low long h)))
      (λ g. let once = shuffle_passed 0 n _ g in
      by_then P (table_fault n M) _ (table_fault_lem n M P (λ h. (refl, not_compatibility few low long once h)))
      (λ h. edge_fault_lem n M W P (λ i j a b there e. (refl, weightless_edge few low long once (table_passed n M h) i j a b there e))))))))

  none_planned : FaultlessInput r t → plan_fault r (lengths_of t) ≡ none
  unfolding plan_fault n M W to_read to_fill
  none_planned h =
      none_then _ _ (none_refuse 4 0 _ (le-ltb 200 n h.few))
      ∙ none_then _ _ (none_refuse 13 0 _ (le-ltb most_floor r.floor h.low))
      ∙ none_then _ _ (read_none h.long)
      ∙ none_then _ _ (fill_none h.long)
      ∙ none_then _ _ (shuffle_none 0 n _ h.each_once)
      ∙ none_then _ _ (table_none n M h.compatible)
      ∙ edge_none n M W h.weighty

  pub checked : plan_fault r (lengths_of t) ≡ none → FaultlessInput r t
  unfolding plan_fault n M W to_read to_fill
  checked e =
      let a = then_none _ _ e in
      let b = then_none _ _ a.1 in
      let c = then_none _ _ b.1 in
      let d = then_none _ _ c.1 in
      let g = then_none _ _ d.1 in
      let h = then_none _ _ g.1 in
      record {
        few = ltb-false _ _ (refuse_none _ _ _ a.0);
        low = ltb-false _ _ (refuse_none _ _ _ b.0);
        long = long_passed c.0 d.0;
        each_once = shuffle_passed 0 n _ g.0;
        compatible = table_passed n M h.0;
        weighty = edge_passed n M W h.1;
      }

-- ## Where a call is finished, there is no fault, and what was to be filled is filled

module _ {Result Lent : Type 0} (r : Result) (new old : Lent) where
  pub record Finished (f : Fault) (p : Result) (o : Outcome Result Lent) : Type 0 where
    pub faultless : f ≡ none
    pub result : r ≡ p
    pub left : o.lent ≡ new

  pub finished_is : (f : Fault) (p : Result) → (unless f r new old).answer ≡ finished p → Finished f p (unless f r new old)
  finished_is f p e =
      let h = finished_none f r new old e in
      record { faultless = h.0; result = h.1; left = ap (λ (o : Outcome Result Lent). o.lent) (unless_none f r new old h.0) }

-- ## Every answer

pub answers_rightly : AnswersRightly
unfolding planning
answers_rightly r t =
    record {
      accepts = λ h. (_, ap (λ (o : Outcome Plan Lent). o.answer) (unless_none _ _ _ _ (none_planned r t h)));
      accepted = λ p e. checked r t (finished_none _ _ _ _ e).0;
      refuses =
          λ k place e.
          let f = refused_fault _ _ _ _ e in
          let d = plan_fault_lem r t k place f in
          (d.0, d.1, ap (λ (o : Outcome Plan Lent). o.lent) (unless_fault _ _ _ _ k place f));
    }

-- ## Neither 10 nor 17 of sound tables

module _ (r : Request) (t : Lent) (sound : Compatibility r.scope.pairs r.compatibilities)
    (weighty : WeightyTables r.scope.pairs r.compatibilities r.weights) where
  other_fault : (k : ℕ) → PlanFault r t k → (k ≡ 10 → ⊥) × (k ≡ 17 → ⊥)
  other_fault k (too_many_pairs _) = (λ e. omega (arith, e), λ e. omega (arith, e))
  other_fault k (floor_too_high _ _) = (λ e. omega (arith, e), λ e. omega (arith, e))
  other_fault k (too_short _ _ _) = (λ e. omega (arith, e), λ e. omega (arith, e))
  other_fault k (not_a_shuffle _ _ _ _) = (λ e. omega (arith, e), λ e. omega (arith, e))
  other_fault k (not_compatibility _ _ _ _ h) = absurd (h sound)
  other_fault k (weightless_edge _ _ _ _ _ i j a b there e) = absurd (omega (arith, weighty i j a b there, e))

pub sound_tables_pass_ten_and_seventeen : SoundTablesPassTenAndSeventeen
sound_tables_pass_ten_and_seventeen r t sound weighty k place e = other_fault r t sound weighty k ((answers_rightly r t).refuses k place e).1
