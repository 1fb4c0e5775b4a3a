-- The faults of a pool: what has none of them, and that each is there, with none before it. Assumes nothing.
use mathlib.Core.Path.{◌≡◌, refl, ◌∙◌}
use mathlib.Core.List.{List}
use Prim.Native.Nat.{ℕ, ◌≤◌, ◌<◌}
use borrow.Author.Tests.{le-ltb, ltb-true, ltb-false}
use lib.ListN.{length}
use Rattle.refusal.specs.Fault.{none, fault}
use Rattle.refusal.proofs.Faults.{then_none, none_then, refuse_none, none_refuse, first_none, none_first, by_refuse, by_then, by_first}
use Rattle.pool.specs.Pool.{Pair}
use Rattle.pool.specs.Points.{Points, point_count}
use Rattle.pool.specs.Tables.{Tables, room, pair_in, points_of_table}
use Rattle.pool.specs.Faults.{pair_fault, before_fault, pairs_fault, pool_fault}
use Rattle.pool.specs.Faultless.{KnownVersion, InRange, Unlike, Ready, NoneBefore, FaultlessPool, PairsFault, TablesHold}
use Rattle.pool.proofs.Points.{version_none, version_passed, version_fault_lem, points_none, points_passed, points_fault_lem}
use Rattle.pool.proofs.Rooms.{room_hold, hold_room}
use Rattle.pool.proofs.PairFaults.{pair_none, pair_passed, pair_fault_lem}
use Rattle.pool.proofs.Pairs.{shuffle_none, shuffle_passed}
use Rattle.pool.proofs.Reading.{tables_none, tables_passed, tables_fault_lem}

-- ## 3, 4, 9, 14, 6 and 7 of n pairs in tables of `space` entries, and of their points

-- tables that `Hold` the pool are those with room for its pairs and its points
pub record Holding (v n space : ℕ) (points : List ℕ) (Hold : Type 0) : Type 0 where
  pub hold : n ≤ space → point_count v ≤ length points → Hold
  pub long : Hold → (n ≤ space) × (point_count v ≤ length points)

module _ (v n space : ℕ) (points : List ℕ) (pair : ℕ → Pair) (Hold : Type 0) (holding : Holding v n space points Hold) where
  abbrev weighed : Points
  weighed = points_of_table v points

  pub pairs_none : Ready v n Hold weighed → ((i : ℕ) → i < n → InRange (pair i)) → Unlike n pair → pairs_fault v n space points pair ≡ none
  unfolding pairs_fault before_fault
  pairs_none w r u =
      let l = holding.long w.hold in
      none_then _ _
      (none_then _ _ (version_none v 0 w.version)
      ∙ none_then _ _ (none_refuse 4 0 _ (le-ltb 200 n w.few))
      ∙ none_then _ _ (tables_none v n space points l.0 l.1)
      ∙ points_none weighed 0 w.points)
      ∙ none_first n (pair_fault 0 pair) (λ i l. pair_none 0 pair i (r i l) (λ j k. u i j k l))

  before_ready : before_fault v n space points ≡ none → Ready v n Hold weighed
  unfolding before_fault
  before_ready e =
      let s0 = then_none _ _ e in
      let s1 = then_none _ _ s0.1 in
      let s2 = then_none _ _ s1.1 in
      let l = tables_passed v n space points s2.0 in
      record {
        version = version_passed v 0 s0.0;
        few = ltb-false _ _ (refuse_none _ _ _ s1.0);
        hold = holding.hold l.0 l.1;
        points = points_passed weighed 0 s2.1;
      }

  pub pairs_passed : pairs_fault v n space points pair ≡ none → Ready v n Hold weighed × ((i : ℕ) → i < n → InRange (pair i)) × Unlike n pair
  unfolding pairs_fault
  pairs_passed e =
      let s = then_none _ _ e in
      let at : (i : ℕ) → i < n → pair_fault 0 pair i ≡ none = first_none n (pair_fault 0 pair) s.1 in (
        before_ready s.0,
        λ i l. (pair_passed 0 pair i (at i l)).0,
        λ i j k l. (pair_passed 0 pair i (at i l)).1 j k,
      )

  before_passed : (i : ℕ) → ((j : ℕ) → j < i → pair_fault 0 pair j ≡ none) → NoneBefore i pair
  before_passed i e j l = pair_passed 0 pair j (e j l)

  pub pairs_fault_lem : (k o : ℕ) → pairs_fault v n space points pair ≡ fault k o → (o ≡ 0) × PairsFault v n Hold weighed pair k
  unfolding pairs_fault before_fault
  pairs_fault_lem =
      let P : ℕ → ℕ → Type 0 = λ k o. (o ≡ 0) × PairsFault v n Hold weighed pair k in
      by_then P _ _
      (by_then P _ _ (version_fault_lem v 0 P (λ h. (refl, PairsFault.wrong_version h)))
      (λ x. let version : KnownVersion v = version_passed v 0 x in
      by_then P _ _ (by_refuse P 4 0 _ (λ e. (refl, PairsFault.too_many_pairs version (ltb-true _ _ e))))
      (λ a. let few : n ≤ 200 = ltb-false _ _ (refuse_none _ _ _ a) in
      by_then P _ _ (tables_fault_lem v n space points P (λ no. (refl, PairsFault.table_too_short version few (λ h. let l = holding.long h in no l.0 l.1))))
      (λ r. let l = tables_passed v n space points r in
      let held : Hold = holding.hold l.0 l.1 in
      points_fault_lem weighed 0 P (λ h. (refl, PairsFault.wrong_points version few held h))))))
      (λ q. let ready : Ready v n Hold weighed = before_ready q in
      by_first P n (pair_fault 0 pair)
      (λ i l e. pair_fault_lem 0 pair i P (λ h. (refl, PairsFault.out_of_range i l ready (before_passed i e) h))
      (λ j k g q. (refl, PairsFault.repeated_id i j k l ready (before_passed i e) g q))))

-- ## A pool

module _ (v n : ℕ) (t : Tables) where
  pub tables_holding : Holding v n (room t) t.points (TablesHold v n t)
  tables_holding = record { hold = room_hold v n t; long = hold_room v n t }

  pub pool_none : FaultlessPool v n t → pool_fault v n t ≡ none
  unfolding pool_fault
  pool_none w =
      none_then _ _
      (pairs_none v n (room t) t.points (pair_in t.fields) (TablesHold v n t) tables_holding
      (record { version = w.pool.version; few = w.pool.few; hold = w.hold; points = w.pool.points }) w.pool.in_range w.pool.unlike)
      ∙ shuffle_none 0 n _ w.pool.each_once

  pub pool_passed : pool_fault v n t ≡ none → FaultlessPool v n t
  unfolding pool_fault
  pool_passed e =
      let s = then_none _ _ e in
      let p = pairs_passed v n (room t) t.points (pair_in t.fields) (TablesHold v n t) tables_holding s.0 in
      let ready = p.0 in
      record {
        hold = ready.hold;
        pool =
            record {
              version = ready.version;
              points = ready.points;
              few = ready.few;
              in_range = p.1;
              unlike = p.2;
              each_once = shuffle_passed 0 n _ s.1;
            };
      }
