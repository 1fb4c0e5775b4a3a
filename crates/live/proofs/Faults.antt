-- What the calls of a live pool check of what is stored, and of a pair: what has none of the faults, and that each is there. Assumes nothing.
use mathlib.Core.Path.{◌≡◌, refl, ◌∙◌}
use Prim.Native.Nat.{ℕ, ◌+◌, ◌≤◌, ◌<◌}
use native.Mathlib.Omega.{arith}
use borrow.Author.Tests.{eqb-true, eqb-false, ne_eqb}
use lib.Dec.{eqb}
use Rattle.laws.proofs.Below.{any_none, none_any, any_found}
use Rattle.refusal.specs.Fault.{none, fault, refuse}
use Rattle.refusal.proofs.Faults.{then_none, none_then, refuse_none, none_refuse, first_none, none_first, by_refuse, by_then, by_first}
use Rattle.pool.specs.Pool.{Pair}
use Rattle.pool.specs.Points.{Points}
use Rattle.pool.specs.Faults.{id_fault, room_fault, points_fault}
use Rattle.pool.specs.Faultless.{SoundPoints}
use Rattle.pool.proofs.Points.{points_none, points_passed, points_fault_lem}
use Rattle.pool.proofs.Pairs.{groups_none, groups_passed, groups_fault_lem, id_none, id_passed, id_fault_lem}
use Rattle.pool.proofs.Reading.{room_none, room_passed, room_fault_lem}
use Rattle.live.specs.Live.{Live, weighed_by, pair_of, pair_room}
use Rattle.live.specs.Faults.{start_fault, stored_fault, groups_fault, range_fault, like_fault, more_fault, kept_fault}
use Rattle.live.specs.Faultless.{Kept, KeptFault, StartFault, AllInRange, AllUnlike, OneMoreFits}
use Rattle.live.proofs.Room.{pairs_hold, hold_pairs}
use Rattle.live.proofs.Sizes.{n, m, w, numbers, graph_none, graph_passed, graph_fault_lem, numbers_none, numbers_passed, numbers_fault_lem, sizes_none, sizes_fault_lem, tables_keep}

-- ## Starting

module _ (given : Points) (points : ℕ) where
  pub start_none : SoundPoints given → 6 ≤ points → start_fault given points ≡ none
  unfolding start_fault
  start_none s l = none_then _ _ (points_none given 0 s) ∙ room_none points 6 l

  pub start_passed : start_fault given points ≡ none → SoundPoints given × (6 ≤ points)
  unfolding start_fault
  start_passed e =
      let s = then_none _ _ e in
      (points_passed given 0 s.0, room_passed points 6 s.1)

  pub start_fault_lem : (k o : ℕ) → start_fault given points ≡ fault k o → (o ≡ 0) × StartFault given points k
  unfolding start_fault
  start_fault_lem =
      let P : ℕ → ℕ → Type 0 = λ k o. (o ≡ 0) × StartFault given points k in
      by_then P _ _ (points_fault_lem given 0 P (λ h. (refl, StartFault.wrong_points h)))
      (λ e. room_fault_lem P points 6 (λ l. (refl, StartFault.table_too_short (points_passed given 0 e) l)))

-- ## What both calls look at first

module _ (l : Live) where
  pub kept_none : Kept l → kept_fault l ≡ none
  unfolding stored_fault
  kept_none k =
      let sizes = sizes_none l k.few k.keep in
      let fourteen = points_none (weighed_by l) 0 k.sound in
      let ten = numbers_none l k.numbers in
      none_then _ _ sizes ∙ none_then _ _ fourteen ∙ ten

  pub kept_passed : kept_fault l ≡ none → Kept l
  unfolding stored_fault
  kept_passed e =
      let s = then_none _ _ e in
      let rest = then_none _ _ s.1 in
      let fourteen : points_fault 0 (weighed_by l) ≡ none = rest.0 in
      let ten : numbers l ≡ none = rest.1 in
      let z = tables_keep l s.0 in
      record { few = z.0; keep = z.1; sound = points_passed (weighed_by l) 0 fourteen; numbers = numbers_passed l ten }

  pub kept_fault_lem : (P : ℕ → ℕ → Type 0) → ((k : ℕ) → KeptFault l k → P k 0) → (k o : ℕ) → kept_fault l ≡ fault k o → P k o
  unfolding stored_fault
  kept_fault_lem P h =
      by_then P _ _ (sizes_fault_lem l P h)
      (λ a. let z = tables_keep l a in
      by_then P _ _ (points_fault_lem (weighed_by l) 0 P (λ bad. h 14 (KeptFault.wrong_points z.0 z.1 bad)))
      (λ b. numbers_fault_lem l P (λ some. h 10 (KeptFault.wrong_number z.0 z.1 (points_passed (weighed_by l) 0 b) some))))

-- ## 6, 7 and 12 of a pair that registers

module _ (p : Pair) (l : Live) where
  pub range_none : AllInRange p l → range_fault (n l) (pair_of l) p ≡ none
  unfolding range_fault
  range_none r =
      none_then _ _ (none_first (n l) (λ i. groups_fault (pair_of l i)) (λ i k. groups_none 0 (pair_of l i) (r.stored i k))) ∙ groups_none 0 p r.new

  pub range_passed : range_fault (n l) (pair_of l) p ≡ none → AllInRange p l
  unfolding range_fault
  range_passed e =
      let s = then_none _ _ e in
      record {
        stored = λ i k. groups_passed 0 (pair_of l i) (first_none (n l) (λ i. groups_fault (pair_of l i)) s.0 i k);
        new = groups_passed 0 p s.1;
      }

  pub range_fault_lem : (P : ℕ → ℕ → Type 0) → ((AllInRange p l → ⊥) → P 6 0) → (k o : ℕ) → range_fault (n l) (pair_of l) p ≡ fault k o → P k o
  unfolding range_fault
  range_fault_lem P six =
      by_then P _ _ (by_first P (n l) (λ i. groups_fault (pair_of l i)) (λ i k _. groups_fault_lem 0 (pair_of l i) P (λ no. six (λ r. no (r.stored i k)))))
      (λ _. groups_fault_lem 0 p P (λ no. six (λ r. no r.new)))

  abbrev pub id : ℕ → ℕ
  id j = (pair_of l j).id

  pub like_none : AllUnlike p l → like_fault (n l) (pair_of l) p ≡ none
  unfolding like_fault
  like_none u =
      none_then _ _ (none_first (n l) (id_fault 0 id) (λ i k. id_none 0 id i (λ j h. u.stored i j h k)))
      ∙ none_refuse 7 0 _ (none_any (n l) (λ j. eqb (id j) p.id) (λ j k. ne_eqb _ _ (u.new j k)))

  pub like_passed : like_fault (n l) (pair_of l) p ≡ none → AllUnlike p l
  unfolding like_fault
  like_passed e =
      let s = then_none _ _ e in
      record {
        stored = λ i j h k. id_passed 0 id i (first_none (n l) (id_fault 0 id) s.0 i k) j h;
        new = λ j k. eqb-false _ _ (any_none (n l) (λ j. eqb (id j) p.id) (refuse_none _ _ _ s.1) j k);
      }

  pub like_fault_lem : (P : ℕ → ℕ → Type 0) → ((AllUnlike p l → ⊥) → P 7 0) → (k o : ℕ) → like_fault (n l) (pair_of l) p ≡ fault k o → P k o
  unfolding like_fault
  like_fault_lem P seven =
      by_then P _ _ (by_first P (n l) (id_fault 0 id) (λ i k _. id_fault_lem 0 id i P (λ j h e. seven (λ u. u.stored i j h k e))))
      (λ _. by_refuse P 7 0 _
      (λ e. let f = any_found (n l) (λ j. eqb (id j) p.id) e in seven (λ u. u.new f.0 f.1 (eqb-true _ _ f.2))))

  pub more_none : l.count < 200 → OneMoreFits l → more_fault (n l) (pair_room l) (m l) (w l) ≡ none
  unfolding more_fault
  more_none few h =
      let full : refuse 12 0 (eqb (n l) 200) ≡ none = none_refuse 12 0 _ (ne_eqb (n l) 200 (λ e. omega (arith, few, e))) in
      let room : room_fault (pair_room l) (n l + 1) ≡ none = room_none _ _ (hold_pairs l (n l + 1) h.fields h.suitable) in
      none_then _ _ full ∙ none_then _ _ room ∙ graph_none (n l + 1) (m l) (w l) h.graph.compatibilities h.graph.weights

  pub more_passed : n l ≤ 200 → more_fault (n l) (pair_room l) (m l) (w l) ≡ none → (n l < 200) × OneMoreFits l
  unfolding more_fault
  more_passed few e =
      let s = then_none _ _ e in
      let t = then_none _ _ s.1 in
      let full : refuse 12 0 (eqb (n l) 200) ≡ none = s.0 in
      let room : room_fault (pair_room l) (n l + 1) ≡ none = t.0 in
      let hold = pairs_hold l (n l + 1) (room_passed _ _ room) in
      let g = graph_passed (n l + 1) (m l) (w l) t.1 in
      let not200 : n l ≡ 200 → ⊥ = eqb-false _ _ (refuse_none _ _ _ full) in (
        omega (arith, few, not200),
        record { fields = hold.0; graph = record { compatibilities = g.0; weights = g.1 }; suitable = hold.1 },
      )

  pub more_fault_lem : n l ≤ 200 → (P : ℕ → ℕ → Type 0) → (n l ≡ 200 → P 12 0) → (n l < 200 → (OneMoreFits l → ⊥) → P 9 0) → (k o : ℕ)
      → more_fault (n l) (pair_room l) (m l) (w l) ≡ fault k o → P k o
  unfolding more_fault
  more_fault_lem few P twelve nine =
      by_then P _ _ (by_refuse P 12 0 _ (λ e. twelve (eqb-true _ _ e)))
      (λ a. let not200 : n l ≡ 200 → ⊥ = eqb-false _ _ (refuse_none _ _ _ a) in
      let less : n l < 200 = omega (arith, few, not200) in
      by_then P _ _ (room_fault_lem P _ _ (λ short. nine less (λ h. omega (arith, short, hold_pairs l (n l + 1) h.fields h.suitable))))
      (λ _. graph_fault_lem (n l + 1) (m l) (w l) P (λ no. nine less (λ h. no h.graph.compatibilities h.graph.weights))))
