-- The faults of a sheet, and of the tables that it is read into: what has none of them, and that each is there, with none before it. Assumes nothing.
use mathlib.Core.Path.{◌≡◌, ◌∙◌}
use mathlib.Core.List.{List}
use Prim.Native.Nat.{ℕ, ◌≤◌, ◌<◌}
use native.Mathlib.Omega.{arith}
use borrow.Author.Tests.{le-ltb, ltb-true, ltb-false}
use lib.ListN.{length}
use Rattle.refusal.specs.Fault.{none, fault}
use Rattle.refusal.proofs.Faults.{then_none, none_then, then_nothing, refuse_none, none_refuse, only_none, none_only, first_none, none_first, by_refuse, by_only, by_then, by_first}
use Rattle.pool.specs.Points.{points_by, has_points, point_count}
use Rattle.pool.specs.Sheet.{points_place, sheet_length, version_in, pairs_in, point_at, pair_at, shuffle_at, pair_due, shuffle_due}
use Rattle.pool.specs.Faults.{head_fault, points_field_fault, pair_field_fault, shuffle_field_fault, end_fault, sheet_fault, room_fault, tables_fault}
use Rattle.pool.specs.Faultless.{Faultless, FaultlessHead, FaultlessPoints, PointsWhereDue, FaultlessPair, FaultlessShuffle, FaultlessSheet, HeadField, PairField}
use Rattle.pool.specs.Faultless.{Due, Forward, SheetFault, wrong_version, wrong_points, left_over, out_of_range, repeated_id, not_a_shuffle}
use Rattle.pool.proofs.Points.{version_none, version_passed, version_fault_lem, has_second, second_has, first_count, count_most, points_none, points_passed, points_fault_lem, sound_points}
use Rattle.pool.proofs.Fields.{field_none, field_passed, field_fault_lem}
use Rattle.pool.proofs.PairFaults.{pair_none, pair_passed, pair_fault_lem}
use Rattle.pool.proofs.Pairs.{shuffle_none, shuffle_passed, shuffle_fault_lem}

-- ## 9

pub room_none : (space n : ℕ) → n ≤ space → room_fault space n ≡ none
unfolding room_fault
room_none space n l = none_refuse 9 0 _ (le-ltb space n l)

pub room_passed : (space n : ℕ) → room_fault space n ≡ none → n ≤ space
unfolding room_fault
room_passed space n e = ltb-false _ _ (refuse_none _ _ _ e)

pub room_fault_lem : (P : ℕ → ℕ → Type 0) (space n : ℕ) → (space < n → P 9 0) → (k p : ℕ) → room_fault space n ≡ fault k p → P k p
unfolding room_fault
room_fault_lem P space n nine = by_refuse P 9 0 _ (λ e. nine (ltb-true _ _ e))

-- of the tables, and of that of the points
module _ (v n space : ℕ) (points : List ℕ) where
  pub tables_none : n ≤ space → point_count v ≤ length points → tables_fault v n space points ≡ none
  unfolding tables_fault
  tables_none l m = none_then _ _ (room_none space n l) ∙ room_none (length points) (point_count v) m

  pub tables_passed : tables_fault v n space points ≡ none → (n ≤ space) × (point_count v ≤ length points)
  unfolding tables_fault
  tables_passed e =
      let s = then_none _ _ e in
      (room_passed space n s.0, room_passed (length points) (point_count v) s.1)

  pub tables_fault_lem : (P : ℕ → ℕ → Type 0) → ((n ≤ space → point_count v ≤ length points → ⊥) → P 9 0)
      → (k p : ℕ) → tables_fault v n space points ≡ fault k p → P k p
  unfolding tables_fault
  tables_fault_lem P nine =
      by_then P _ _ (room_fault_lem P space n (λ l. nine (λ h _. omega (arith, l, h))))
      (λ _. room_fault_lem P (length points) (point_count v) (λ l. nine (λ _ h. omega (arith, l, h))))

-- of version 1 the points' table may have any length
pub tables_first : (v n space : ℕ) (points other : List ℕ) → v ≡ 1 → tables_fault v n space points ≡ tables_fault v n space other
unfolding tables_fault
tables_first v n space points other e =
    let none_of : (l : List ℕ) → room_fault (length l) (point_count v) ≡ none = λ l. room_none (length l) (point_count v) (omega (arith, first_count v e)) in
    rw (none_of points, none_of other)

-- and of either a table of six suffices
pub tables_six : (v n space : ℕ) (points : List ℕ) → length points ≡ 6 → tables_fault v n space points ≡ room_fault space n
unfolding tables_fault
tables_six v n space points e = rw (room_none (length points) (point_count v) (omega (arith, e, count_most v))) (then_nothing (room_fault space n))

module _ (b : List ℕ) where
  -- ## A sheet with none of the faults

  head_none : FaultlessHead b → head_fault b ≡ none
  unfolding head_fault
  head_none h =
      none_then _ _ (field_none b _ _ _ h.field)
      ∙ none_then _ _ (version_none (version_in b) 0 h.version)
      ∙ none_refuse 4 0 _ (le-ltb 200 (pairs_in b) h.few)

  points_none_field : PointsWhereDue b → points_field_fault b ≡ none
  unfolding points_field_fault
  points_none_field h =
      none_only (has_points (version_in b)) _
      (λ e. let w : FaultlessPoints b = h (has_second (version_in b) e) in
      none_then _ _ (field_none b _ _ _ w.field) ∙ points_none (points_by (point_at b)) points_place w.sound)

  pair_none_field : (i : ℕ) → FaultlessPair b i → pair_field_fault b i ≡ none
  unfolding pair_field_fault
  pair_none_field i q =
      none_then _ _ (field_none b _ _ _ q.field) ∙ pair_none (pair_due b i) (pair_at b) i q.in_range q.unlike

  end_none : (n : ℕ) → length b ≤ sheet_length (version_in b) n → end_fault b n ≡ none
  unfolding end_fault
  end_none n l = none_refuse 5 _ _ (le-ltb (sheet_length (version_in b) n) (length b) l)

  pub sheet_none : FaultlessSheet b → sheet_fault b ≡ none
  unfolding sheet_fault shuffle_field_fault
  sheet_none s =
      none_then _ _ (head_none s.head)
      ∙ none_then _ _ (points_none_field s.points)
      ∙ none_then _ _ (none_first (pairs_in b) (pair_field_fault b) (λ i l. pair_none_field i (s.pair i l)))
      ∙ none_then _ _ (none_then _ _ (field_none b _ _ _ s.shuffle.field) ∙ shuffle_none _ _ _ s.shuffle.each_once)
      ∙ end_none (pairs_in b) (omega (arith, s.nothing_after))

  -- ## None of the faults: such a sheet

  pub head_passed : head_fault b ≡ none → FaultlessHead b
  unfolding head_fault
  head_passed e =
      let h = then_none _ _ e in
      let v = then_none _ _ h.1 in
      record {
        field = field_passed b _ _ _ h.0;
        version = version_passed (version_in b) 0 v.0;
        few = ltb-false _ _ (refuse_none _ _ _ v.1);
      }

  points_field_passed : points_field_fault b ≡ none → PointsWhereDue b
  unfolding points_field_fault
  points_field_passed e h =
      let s = then_none _ _ (only_none _ _ e (second_has (version_in b) h)) in
      record { field = field_passed b _ _ _ s.0; sound = points_passed (points_by (point_at b)) points_place s.1 }

  pair_field_passed : (i : ℕ) → pair_field_fault b i ≡ none → FaultlessPair b i
  unfolding pair_field_fault
  pair_field_passed i e =
      let s = then_none _ _ e in
      let r = pair_passed (pair_due b i) (pair_at b) i s.1 in
      record { field = field_passed b _ _ _ s.0; in_range = r.0; unlike = r.1 }

  shuffle_field_passed : shuffle_field_fault b (pairs_in b) ≡ none → FaultlessShuffle b
  unfolding shuffle_field_fault
  shuffle_field_passed e =
      let s = then_none _ _ e in
      record { field = field_passed b _ _ _ s.0; each_once = shuffle_passed (shuffle_due b) _ _ s.1 }

  pub sheet_passed : sheet_fault b ≡ none → FaultlessSheet b
  unfolding sheet_fault end_fault
  sheet_passed e =
      let n = pairs_in b in
      let s0 = then_none _ _ e in
      let s1 = then_none _ _ s0.1 in
      let s2 = then_none _ _ s1.1 in
      let s3 = then_none _ _ s2.1 in
      let drawn : FaultlessShuffle b = shuffle_field_passed s3.0 in
      let most : length b ≤ sheet_length (version_in b) n = ltb-false _ _ (refuse_none _ _ _ s3.1) in
      record {
        head = head_passed s0.0;
        points = points_field_passed s1.0;
        pair = λ i l. pair_field_passed i (first_none n (pair_field_fault b) s2.0 i l);
        shuffle = drawn;
        nothing_after = omega (arith, most, drawn.field.whole);
      }

  -- its version, points, pairs and shuffle
  pub sheet_pool : FaultlessSheet b → Faultless (version_in b) (point_at b) (pairs_in b) (pair_at b) (shuffle_at b (pairs_in b))
  sheet_pool s =
      record {
        version = s.head.version;
        points = sound_points (version_in b) (point_at b) (λ e. (s.points e).sound);
        few = s.head.few;
        in_range = λ i l. (s.pair i l).in_range;
        unlike = λ i j k l. (s.pair i l).unlike j k;
        each_once = s.shuffle.each_once;
      }

  -- ## A fault that is there, and none that is looked for before it

  pub sheet_fault_lem : (k o : ℕ) → sheet_fault b ≡ fault k o → SheetFault b k o
  unfolding sheet_fault head_fault points_field_fault pair_field_fault shuffle_field_fault end_fault
  sheet_fault_lem =
      let P = SheetFault b in
      let n = pairs_in b in
      by_then P _ _
      (by_then P _ _ (field_fault_lem b _ _ _ Due.head Forward.head)
      (λ f. let h : HeadField b = field_passed b _ _ _ f in
      by_then P _ _ (version_fault_lem (version_in b) 0 P (wrong_version h))
      (λ v. by_refuse P 4 0 _ (λ e. SheetFault.too_many_pairs h (version_passed (version_in b) 0 v) (ltb-true _ _ e)))))
      (λ h. let head : FaultlessHead b = head_passed h in
      by_then P _ _
      (by_only P (has_points (version_in b)) _
      (λ t. let second : version_in b ≡ 2 = has_second (version_in b) t in
      by_then P _ _ (field_fault_lem b _ _ _ (Due.points second) (Forward.points second head))
      (λ f. points_fault_lem (points_by (point_at b)) points_place P (wrong_points second head (field_passed b _ _ _ f)))))
      (λ q. let points : PointsWhereDue b = points_field_passed q in
      by_then P _ _
      (by_first P n (pair_field_fault b)
      (λ i l before. let w : Forward b (pair_due b i) = Forward.pair i l head points (λ j k. pair_field_passed j (before j k)) in
      by_then P _ _ (field_fault_lem b _ _ _ (Due.pair i l) w)
      (λ f. let field : PairField b i = field_passed b _ _ _ f in
      pair_fault_lem (pair_due b i) (pair_at b) i P (out_of_range i l w field) (λ j k r e. repeated_id i j k l w field r e))))
      (λ p. let w : Forward b (shuffle_due b) = Forward.shuffle head points (λ j k. pair_field_passed j (first_none n (pair_field_fault b) p j k)) in
      by_then P _ _
      (by_then P _ _ (field_fault_lem b _ _ _ Due.shuffle w)
      (λ f. shuffle_fault_lem (shuffle_due b) n (shuffle_at b n) P (not_a_shuffle w (field_passed b _ _ _ f))))
      (λ d. by_refuse P 5 _ _ (λ e. left_over w (shuffle_field_passed d) (ltb-true _ _ e))))))
