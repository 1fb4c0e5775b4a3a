-- Joining's promise: what has none of the faults is joined, and nothing else is; a refusal names a fault that is there. Assumes nothing.
use mathlib.Core.Path.{◌≡◌, sym, ap, ap₂, ◌∙◌}
use mathlib.Core.Bool.{Bool, not}
use mathlib.Core.List.{List}
use Prim.Native.Nat.{ℕ, ◌≤◌}
use native.Mathlib.Omega.{arith}
use borrow.Author.Tests.{le-ltb, ltb-true, ltb-false, eq-eqb, ne_eqb, eqb-true, eqb-false, not-false}
use lib.Dec.{eqb, ltb}
use lib.ListN.{length, take, drop}
use lib.Seq.{drop_at}
use Rattle.laws.specs.Below.{any_below}
use Rattle.laws.specs.Lent.{filled}
use Rattle.laws.proofs.Below.{any_none, none_any, any_found}
use Rattle.laws.proofs.Lent.{take-filled}
use Rattle.refusal.specs.Fault.{none, fault, refuse}
use Rattle.refusal.specs.Answer.{finished, refused, Outcome, outcome}
use Rattle.refusal.proofs.Faults.{none_fault, then_none, none_then, refuse_none, none_refuse, by_refuse, by_then, unless_none, unless_fault, finished_none, refused_fault}
use Rattle.pool.specs.Points.{point_count}
use Rattle.pool.specs.Sheet.{version_in, pairs_in, point_at, pair_at}
use Rattle.pool.specs.Faults.{sheet_fault}
use Rattle.pool.specs.Tables.{filled_tables}
use Rattle.pool.specs.Calls.{head}
use Rattle.pool.specs.Joining.{joined_sheet, differ_fault, id_in_both, shared_fault, together_fault, both_fault, join_fault, joining}
use Rattle.pool.specs.Faultless.{FaultlessSheet}
use Rattle.pool.specs.Joinable.{SamePoints, NoSharedId, pairs_together, length_together, Joinable, JoinFault, JoinsRightly, JoinedIsRead}
use Rattle.pool.specs.Promises.{EntriesBelow}
use Rattle.pool.proofs.Reading.{room_none, room_passed, room_fault_lem, sheet_none, sheet_passed, sheet_fault_lem}
use Rattle.pool.proofs.ReadingCall.{reading_none}
use Rattle.pool.proofs.Points.{second_count, counted_second}
use Rattle.pool.proofs.Joined.{length_joined, pool_joined, version_joined, pairs_joined, is_joined}

module _ (a b : List ℕ) where
  -- ## 15, 11 and 12

  -- a point k that differs
  abbrev differs_at : ℕ → Bool
  differs_at k = not (eqb (point_at a k) (point_at b k))

  differ_none : SamePoints a b → differ_fault a b ≡ none
  unfolding differ_fault
  differ_none s =
      none_then _ _ (none_refuse 15 0 _ (ap not (eq-eqb _ _ s.version)))
      ∙ none_refuse 15 0 _
      (none_any (point_count (version_in a)) differs_at
      (λ k l. let e : version_in a ≡ 2 = counted_second (version_in a) k l in
      ap not (eq-eqb _ _ (s.points e k (rw (second_count (version_in a) e) at l)))))

  differ_passed : differ_fault a b ≡ none → SamePoints a b
  unfolding differ_fault
  differ_passed e =
      let s = then_none _ _ e in
      record {
        version = eqb-true _ _ (not-false _ (refuse_none _ _ _ s.0));
        points =
            λ second k l.
            eqb-true _ _
            (not-false _ (any_none (point_count (version_in a)) differs_at (refuse_none _ _ _ s.1) k (rw (second_count (version_in a) second) l)));
      }

  differ_fault_lem : (P : ℕ → ℕ → Type 0) → ((SamePoints a b → ⊥) → P 15 0) → (k o : ℕ) → differ_fault a b ≡ fault k o → P k o
  unfolding differ_fault
  differ_fault_lem P fifteen k o e =
      let p : P 15 0 = fifteen (λ s. none_fault (differ_none s) e) in
      by_then P _ _ (by_refuse P 15 0 _ (λ _. p)) (λ _. by_refuse P 15 0 _ (λ _. p)) k o e

  -- a pair of the first has the id of pair j of the second
  abbrev shared_by : ℕ → Bool
  shared_by j = any_below (pairs_in a) (λ i. eqb (pair_at a i).id (pair_at b j).id)

  shared_none : NoSharedId a b → shared_fault a b ≡ none
  unfolding id_in_both shared_fault
  shared_none h =
      none_refuse 11 0 _ (none_any (pairs_in b) shared_by (λ j l. none_any (pairs_in a) _ (λ i k. ne_eqb _ _ (h i j k l))))

  shared_passed : shared_fault a b ≡ none → NoSharedId a b
  unfolding id_in_both shared_fault
  shared_passed e i j k l = eqb-false _ _ (any_none (pairs_in a) _ (any_none (pairs_in b) shared_by (refuse_none _ _ _ e) j l) i k)

  together_none : pairs_together a b ≤ 200 → together_fault a b ≡ none
  unfolding together_fault
  together_none l = none_refuse 12 0 _ (le-ltb 200 _ l)

  together_passed : together_fault a b ≡ none → pairs_together a b ≤ 200
  unfolding together_fault
  together_passed e = ltb-false _ _ (refuse_none _ _ _ e)

  -- ## All of them

  module _ (space : ℕ) where
    join_fault_lem : (k o : ℕ) → join_fault a b space ≡ fault k o → JoinFault a b space k o
    unfolding id_in_both join_fault both_fault shared_fault together_fault
    join_fault_lem =
        let P = JoinFault a b space in
        by_then P (sheet_fault a) _ (λ k o e. JoinFault.first k o (sheet_fault_lem a k o e))
        (λ f. let one : FaultlessSheet a = sheet_passed a f in
        by_then P (sheet_fault b) _ (λ k o e. JoinFault.second k o one (sheet_fault_lem b k o e))
        (λ g. let other : FaultlessSheet b = sheet_passed b g in
        by_then P (differ_fault a b) _ (differ_fault_lem P (JoinFault.different_points one other))
        (λ d. let same : SamePoints a b = differ_passed d in
        by_then P (refuse 11 0 (id_in_both a b)) _
        (by_refuse P 11 0 _
        (λ e. let j = any_found (pairs_in b) shared_by e in
        let i = any_found (pairs_in a) _ j.2 in
        JoinFault.shared_id one other same i.0 j.0 i.1 j.1 (eqb-true _ _ i.2)))
        (λ h. let apart : NoSharedId a b = shared_passed h in
        by_then P (refuse 12 0 (ltb 200 (pairs_together a b))) _ (by_refuse P 12 0 _ (λ e. JoinFault.too_many_together one other same apart (ltb-true _ _ e)))
        (λ t. room_fault_lem P space (length (joined_sheet a b))
        (λ l. JoinFault.buffer_too_short (record { first = one; second = other; same = same; apart = apart; few = together_passed t })
        (rw length_joined at l)))))))

    join_none : Joinable a b → length_together a b ≤ space → join_fault a b space ≡ none
    unfolding join_fault both_fault
    join_none w l =
        none_then _ _ (sheet_none a w.first)
        ∙ none_then _ _ (sheet_none b w.second)
        ∙ none_then _ _ (differ_none w.same)
        ∙ none_then _ _ (shared_none w.apart)
        ∙ none_then _ _ (together_none w.few)
        ∙ room_none space _ (rw length_joined l)

    pub join_passed : join_fault a b space ≡ none → Joinable a b × (length (joined_sheet a b) ≤ space)
    unfolding join_fault both_fault
    join_passed e =
        let s1 = then_none _ _ e in
        let s2 = then_none _ _ s1.1 in
        let s0 = then_none _ _ s2.1 in
        let s3 = then_none _ _ s0.1 in
        let s4 = then_none _ _ s3.1 in (
          record {
            first = sheet_passed a s1.0;
            second = sheet_passed b s2.0;
            same = differ_passed s0.0;
            apart = shared_passed s3.0;
            few = together_passed s4.0;
          },
          room_passed space _ s4.1,
        )

  -- ## The call

  module _ (out : List ℕ) where
    joining_none : Joinable a b → length_together a b ≤ length out
        → joining a b out ≡ outcome (finished (length (joined_sheet a b))) (filled (joined_sheet a b) out)
    unfolding joining
    joining_none w l = unless_none _ _ _ _ (join_none (length out) w l)

    joining_passed : (m : ℕ) → (joining a b out).answer ≡ finished m
        → (m ≡ length_together a b) × Joinable a b × (m ≤ length out)
    unfolding joining
    joining_passed m e =
        let f = finished_none _ _ _ _ e in
        let p = join_passed (length out) f.0 in
        (sym f.1 ∙ length_joined a b, p.0, rw (← f.1) p.1)

    -- what is written, and what lies past it
    joining-left : (m : ℕ) → (joining a b out).answer ≡ finished m
        → (take m (joining a b out).lent ≡ joined_sheet a b) × (drop m (joining a b out).lent ≡ drop m out)
    unfolding filled
    joining-left m e =
        let p = joining_passed m e in
        let size : length (joined_sheet a b) ≡ m = length_joined a b ∙ sym p.0 in
        let left : (joining a b out).lent ≡ filled (joined_sheet a b) out =
        ap (λ (o : Outcome ℕ (List ℕ)). o.lent) (joining_none p.1 (omega (arith, p.0, p.2))) in (
          ap₂ (λ (k : ℕ) (c : List ℕ). take k c) (sym size) left ∙ take-filled (joined_sheet a b) out,
          ap (drop m) left ∙ drop_at (joined_sheet a b) _ m size ∙ ap (λ (k : ℕ). drop k out) size,
        )

    joining_fault : (k o : ℕ) → (joining a b out).answer ≡ refused k o → JoinFault a b (length out) k o × ((joining a b out).lent ≡ out)
    unfolding joining
    joining_fault k o e =
        let f = refused_fault _ _ _ _ e in
        (join_fault_lem (length out) k o f, ap (λ (r : Outcome ℕ (List ℕ)). r.lent) (unless_fault _ _ _ _ k o f))

    pub joins_rightly : EntriesBelow 256 a → EntriesBelow 256 b → JoinsRightly a b out (joining a b out)
    joins_rightly ha hb =
        record {
          accepts = λ w l. ap (λ (r : Outcome ℕ (List ℕ)). r.answer) (joining_none w l) ∙ ap finished (length_joined a b);
          accepted = joining_passed;
          refuses = joining_fault;
          joins = λ m e. let left = joining-left m e in (rw left.0 (is_joined a b ha hb (joining_passed m e).1), left.1);
        }

-- ## Read back

pub joined_is_read : JoinedIsRead
joined_is_read a b out m t ha hb e h =
    let w : Joinable a b = (joining_passed a b out m e).1 in
    let n : pairs_in (joined_sheet a b) ≡ pairs_together a b = pairs_joined a b ha hb w in
    rw (joining-left a b out m e).0
    (reading_none (joined_sheet a b) t (is_joined a b ha hb w).accepted (rw (version_joined a b ha hb w, n) h)
    ∙ ap₂ (λ h p. outcome (finished h) (filled_tables p t)) (ap₂ head (version_joined a b ha hb w) n) (pool_joined a b ha hb w))
