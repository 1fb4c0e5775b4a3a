-- What the calls of a live pool check of its tables: 4 and 9, and 10. Assumes nothing.
use mathlib.Core.Path.{◌≡◌, ap, ◌∙◌}
use mathlib.Core.Bool.{not}
use mathlib.Core.List.{List}
use Prim.Native.Nat.{ℕ, ◌*◌, ◌≤◌, min}
use native.Mathlib.Nat.{le_refl}
use native.Mathlib.Omega.{arith}
use borrow.Author.Tests.{le-ltb, ltb-true, ltb-false, eqb-true, eqb-false, eq-eqb, not-true, not-false}
use lib.Dec.{eqb}
use lib.ListN.{length}
use Rattle.laws.specs.Below.{Some}
use Rattle.refusal.specs.Fault.{Fault, none, fault, refuse}
use Rattle.refusal.proofs.Faults.{then_none, none_then, refuse_none, none_refuse, first_none, none_first, by_refuse, by_then, by_first}
use Rattle.pool.specs.Points.{has_points, point_count}
use Rattle.pool.specs.Tables.{item_in, field_room}
use Rattle.pool.specs.Faultless.{FieldsHold}
use Rattle.pool.proofs.Reading.{room_none, room_passed, room_fault_lem, tables_none, tables_passed, tables_fault_lem}
use Rattle.live.specs.Live.{Live, live_version, pair_room}
use Rattle.live.specs.Suitable.{ones_in}
use Rattle.live.specs.Faults.{graph_fault, sizes_fault, numbers_fault}
use Rattle.live.specs.Faultless.{TablesKeep, TrueNumber, TrueNumbers, KeptFault}
use Rattle.live.proofs.Suitable.{number_true, true_number}
use Rattle.live.proofs.Room.{pairs_hold, hold_pairs}

-- ## M and W

module _ (n compatibilities weights : ℕ) where
  pub graph_none : n * n ≤ compatibilities → n * n ≤ weights → graph_fault n compatibilities weights ≡ none
  unfolding graph_fault
  graph_none l m = none_then _ _ (room_none compatibilities (n * n) l) ∙ room_none weights (n * n) m

  pub graph_passed : graph_fault n compatibilities weights ≡ none → (n * n ≤ compatibilities) × (n * n ≤ weights)
  unfolding graph_fault
  graph_passed e =
      let s = then_none _ _ e in
      (room_passed compatibilities (n * n) s.0, room_passed weights (n * n) s.1)

  pub graph_fault_lem : (P : ℕ → ℕ → Type 0) → ((n * n ≤ compatibilities → n * n ≤ weights → ⊥) → P 9 0) → (k o : ℕ)
      → graph_fault n compatibilities weights ≡ fault k o → P k o
  unfolding graph_fault
  graph_fault_lem P nine =
      by_then P _ _ (room_fault_lem P compatibilities (n * n) (λ l. nine (λ h _. omega (arith, l, h))))
      (λ _. room_fault_lem P weights (n * n) (λ l. nine (λ _ h. omega (arith, l, h))))

-- ## 4 and 9

module _ (n space compatibilities weights : ℕ) (points : List ℕ) where
  pub sizes_passed : sizes_fault n space compatibilities weights points ≡ none
      → (n ≤ 200) × (n ≤ space) × (n * n ≤ compatibilities) × (n * n ≤ weights) × (6 ≤ length points)
  unfolding sizes_fault point_count has_points
  sizes_passed e =
      let four = then_none _ _ e in
      let nine = then_none _ _ four.1 in
      let t = tables_passed live_version n space points nine.0 in
      let g = graph_passed n compatibilities weights nine.1 in
      (ltb-false _ _ (refuse_none _ _ _ four.0), t.0, g.0, g.1, t.1)

-- ## What both calls look at first

module _ (l : Live) where
  abbrev pub n : ℕ
  n = l.count

  abbrev pub m : ℕ
  m = length l.graph.compatibilities

  abbrev pub w : ℕ
  w = length l.graph.weights

  -- ### the tables with an entry for each pair

  pub room_holds : (space : ℕ) → space ≡ pair_room l → FieldsHold space l.fields × (space ≤ length l.suitable)
  room_holds space e = pairs_hold l space (rw e (le_refl _))

  -- the lesser of the shortest of the fields and the numbers
  pub lesser_pairs : (held space : ℕ) → held ≡ field_room l.fields → space ≡ min held (length l.suitable) → space ≡ pair_room l
  unfolding pair_room
  lesser_pairs held space e s = s ∙ ap (λ (h : ℕ). min h (length l.suitable)) e

  -- ### the numbers

  abbrev pub M : List ℕ
  M = l.graph.compatibilities

  abbrev pub number : ℕ → Fault
  number j = refuse 10 0 (not (eqb (item_in l.suitable j) (ones_in n M j)))

  abbrev pub numbers : Fault
  numbers = numbers_fault n M l.suitable

  pub numbers_none : TrueNumbers l → numbers ≡ none
  unfolding numbers_fault
  numbers_none t = none_first n number (λ j k. none_refuse 10 0 _ (ap not (eq-eqb _ _ (true_number n M j _ (t j k)))))

  pub numbers_passed : numbers ≡ none → TrueNumbers l
  unfolding numbers_fault
  numbers_passed e j k = number_true n M j _ (eqb-true _ _ (not-false _ (refuse_none _ _ _ (first_none n number e j k))))

  pub numbers_fault_lem : (P : ℕ → ℕ → Type 0) → (Some n (λ j. TrueNumber l j → ⊥) → P 10 0) → (k o : ℕ) → numbers ≡ fault k o → P k o
  unfolding numbers_fault
  numbers_fault_lem P ten =
      by_first P n number
      (λ j k _. by_refuse P 10 0 _ (λ e. ten (record { at = j; below = k; there = λ t. eqb-false _ _ (not-true _ e) (true_number n M j _ t) })))

  -- ### 4 and 9 of them

  pub sizes_none : l.count ≤ 200 → TablesKeep l → sizes_fault n (pair_room l) m w l.points ≡ none
  unfolding sizes_fault point_count has_points
  sizes_none few k =
      none_then _ _ (none_refuse 4 0 _ (le-ltb 200 n few))
      ∙ none_then _ _ (tables_none live_version n (pair_room l) l.points (hold_pairs l n k.fields k.suitable) k.points)
      ∙ graph_none n m w k.graph.compatibilities k.graph.weights

  pub tables_keep : sizes_fault n (pair_room l) m w l.points ≡ none → (n ≤ 200) × TablesKeep l
  tables_keep e =
      let s = sizes_passed n (pair_room l) m w l.points e in
      let p = pairs_hold l n s.1 in
      (s.0, record { fields = p.0; graph = record { compatibilities = s.2; weights = s.3 }; suitable = p.1; points = s.4 })

  pub sizes_fault_lem : (P : ℕ → ℕ → Type 0) → ((k : ℕ) → KeptFault l k → P k 0) → (k o : ℕ) → sizes_fault n (pair_room l) m w l.points ≡ fault k o → P k o
  unfolding sizes_fault point_count has_points
  sizes_fault_lem P h =
      by_then P _ _ (by_refuse P 4 0 _ (λ e. h 4 (KeptFault.too_many_pairs (ltb-true _ _ e))))
      (λ a. let few : n ≤ 200 = ltb-false _ _ (refuse_none _ _ _ a) in
      by_then P _ _
      (tables_fault_lem live_version n (pair_room l) l.points P
      (λ no. h 9 (KeptFault.table_too_short few (λ k. no (hold_pairs l n k.fields k.suitable) k.points))))
      (λ _. graph_fault_lem n m w P (λ no. h 9 (KeptFault.table_too_short few (λ k. no k.graph.compatibilities k.graph.weights)))))
