-- What building checks: 3, 4, 9, 14, 6, 7 of the fields and the points, then 9 of the tables to be filled. Assumes nothing.
use mathlib.Core.Path.{◌≡◌, refl, sym, ap, ◌∙◌}
use mathlib.Core.List.{List}
use Prim.Native.Nat.{ℕ, ◌*◌, ◌≤◌, ◌<◌}
use native.Mathlib.Nat.{le_refl}
use native.Mathlib.Omega.{arith}
use borrow.Author.Tests.{lt-ltb}
use lib.ListN.{length}
use Rattle.refusal.specs.Fault.{none, fault, ◌then◌}
use Rattle.refusal.specs.Number.{fault_at}
use Rattle.refusal.specs.declared.Refusal.{Refusal}
use Rattle.refusal.specs.declared.Refusal.TheVariants.{TooShort}
use Rattle.std.specs.Prelude.{Result, Ok, Err}
use Rattle.refusal.proofs.Faults.{none_then, fault_then, then_none, fault_refuse, sound_none, faulty_fault, by_then}
use Rattle.pool.specs.Pool.{Pair}
use Rattle.pool.specs.Points.{point_count}
use Rattle.pool.specs.Tables.{Fields, field_room, pair_in, points_of_table}
use Rattle.pool.specs.Faults.{room_fault, tables_fault, before_fault, pairs_fault}
use Rattle.pool.specs.Faultless.{FieldsHold, PointsHold, Ready}
use Rattle.pool.proofs.Points.{hold_count, count_hold, first_points_lem}
use Rattle.pool.proofs.Rooms.{field_room_hold, hold_field_room}
use Rattle.pool.proofs.Reading.{room_none, room_passed, room_fault_lem, tables_first}
use Rattle.pool.proofs.Writing.{Holding, pairs_none, pairs_passed, pairs_fault_lem}
use Rattle.checks.specs.Preconditions.{TablesHaveRoom}
use Rattle.graph.specs.Graph.{Graph}
use Rattle.weighing.specs.Building.{build_fault}
use Rattle.weighing.specs.Promises.{FaultlessFields, Fit, BuildFault}

-- the shortest of the tables is the shortest of those that are looked at, or shorter
pub held-fields : (space : ℕ) (f : Fields) → FieldsHold space f
    → TablesHaveRoom space f
held-fields space f h =
    record {
      in_ids = h.ids;
      in_donor_blood = h.donor_blood;
      in_patient_blood = h.patient_blood;
      in_donor_age = h.donor_age;
      in_patient_age = h.patient_age;
    }

pub spaced_fields : (space : ℕ) (f : Fields) → space ≡ field_room f
    → TablesHaveRoom space f
spaced_fields space f e = held-fields space f (field_room_hold space f (rw e (le_refl (field_room f))))

-- tables that hold the pairs and the points are those with room for them
abbrev Held : ℕ → ℕ → List ℕ → Fields → Type 0
Held v n l f = FieldsHold n f × PointsHold v l

fields_holding : (v n : ℕ) (l : List ℕ) (f : Fields) → Holding v n (field_room f) l (Held v n l f)
fields_holding v n l f =
    record {
      hold = λ a b. (field_room_hold n f a, count_hold v l b);
      long = λ h. (hold_field_room n f h.0, hold_count v l h.1);
    }

-- pairs that pass are at most 200
pub passed_few : (v n space : ℕ) (l : List ℕ) (pair : ℕ → Pair) (found : Result Unit Refusal) → fault_at 0 found ≡ pairs_fault v n space l pair → found ≡ (Ok tt) → n ≤ 200
passed_few v n space l pair found e g =
    let holding : Holding v n space l ((n ≤ space) × (point_count v ≤ length l)) = record { hold = λ a b. (a, b); long = λ h. h } in
    (pairs_passed v n space l pair _ holding (sound_none 0 found e g)).0.few

-- ## The code's tests, one after another: `found` is what the check of the fields found

module _ (v n space : ℕ) (l : List ℕ) (f : Fields) (compatibilities weights : ℕ) (s : space ≡ field_room f) (found : Result Unit Refusal)
    (e : fault_at 0 found ≡ pairs_fault v n space l (pair_in f)) where
  fields_fault : fault_at 0 found ≡ pairs_fault v n (field_room f) l (pair_in f)
  fields_fault = e ∙ ap (λ (m : ℕ). pairs_fault v n m l (pair_in f)) s

  pub judge_fields : (why : Refusal) → found ≡ Err why → fault_at 0 (Err why) ≡ build_fault v n l f compatibilities weights
  unfolding build_fault fault_at
  judge_fields why g = sym (fault_then _ _ (faulty_fault 0 found fields_fault why g))

  module _ (g : found ≡ (Ok tt)) where
    after-fields : build_fault v n l f compatibilities weights ≡ (room_fault compatibilities (n * n) then room_fault weights (n * n))
    unfolding build_fault
    after-fields = none_then _ _ (sound_none 0 found fields_fault g)

    pub judge_compatibilities : compatibilities < n * n → fault_at 0 (Err TooShort) ≡ build_fault v n l f compatibilities weights
    unfolding fault_at room_fault
    judge_compatibilities short = sym (after-fields ∙ fault_then _ _ (fault_refuse 9 0 _ (lt-ltb compatibilities (n * n) short)))

    module _ (fit : n * n ≤ compatibilities) where
      after-compatibilities : build_fault v n l f compatibilities weights ≡ room_fault weights (n * n)
      after-compatibilities = after-fields ∙ none_then _ _ (room_none compatibilities (n * n) fit)

      pub judge_weights : weights < n * n → fault_at 0 (Err TooShort) ≡ build_fault v n l f compatibilities weights
      unfolding fault_at room_fault
      judge_weights short = sym (after-compatibilities ∙ fault_refuse 9 0 _ (lt-ltb weights (n * n) short))

      pub judge_sound : n * n ≤ weights → fault_at 0 (Ok tt) ≡ build_fault v n l f compatibilities weights
      unfolding fault_at
      judge_sound fits = sym (after-compatibilities ∙ room_none weights (n * n) fits)

-- ## What has none of the faults, and that each is there

module _ (v n : ℕ) (l : List ℕ) (f : Fields) (g : Graph) where
  abbrev held : Holding v n (field_room f) l (Held v n l f)
  held = fields_holding v n l f

  pub build_none : FaultlessFields v n l f → Fit n g → build_fault v n l f (length g.compatibilities) (length g.weights) ≡ none
  unfolding build_fault
  build_none w h =
      let ready : Ready v n (Held v n l f) (points_of_table v l) =
      record { version = w.version; few = w.few; hold = (w.hold, w.held); points = w.points } in
      none_then _ _ (pairs_none v n (field_room f) l (pair_in f) (Held v n l f) held ready w.in_range w.unlike)
      ∙ none_then _ _ (room_none _ _ h.compatibilities)
      ∙ room_none _ _ h.weights

  fields_passed : pairs_fault v n (field_room f) l (pair_in f) ≡ none → FaultlessFields v n l f
  fields_passed e =
      let p = pairs_passed v n (field_room f) l (pair_in f) (Held v n l f) held e in
      let ready = p.0 in
      record {
        version = ready.version;
        few = ready.few;
        hold = ready.hold.0;
        held = ready.hold.1;
        points = ready.points;
        in_range = p.1;
        unlike = p.2;
      }

  pub build_passed : build_fault v n l f (length g.compatibilities) (length g.weights) ≡ none → FaultlessFields v n l f × Fit n g
  unfolding build_fault
  build_passed e =
      let s = then_none _ _ e in
      let r = then_none _ _ s.1 in
      (fields_passed s.0, record { compatibilities = room_passed _ _ r.0; weights = room_passed _ _ r.1 })

  pub build_fault_lem : (k o : ℕ) → build_fault v n l f (length g.compatibilities) (length g.weights) ≡ fault k o
      → (o ≡ 0) × BuildFault v n l f g k
  unfolding build_fault
  build_fault_lem =
      let P : ℕ → ℕ → Type 0 = λ k o. (o ≡ 0) × BuildFault v n l f g k in
      by_then P _ _
      (λ k o e. let r = pairs_fault_lem v n (field_room f) l (pair_in f) (Held v n l f) held k o e in (r.0, BuildFault.pairs k r.1))
      (λ a. let w : FaultlessFields v n l f = fields_passed a in
      by_then P _ _ (room_fault_lem P _ _ (λ short. (refl, BuildFault.tables_too_short w (λ h. omega (arith, short, h.compatibilities)))))
      (λ _. room_fault_lem P _ _ (λ short. (refl, BuildFault.tables_too_short w (λ h. omega (arith, short, h.weights))))))

-- points that pass are as many as the version has
pub passed_points : (v n : ℕ) (l : List ℕ) (f : Fields) (compatibilities weights : ℕ) (found : Result Unit Refusal)
    → fault_at 0 found ≡ build_fault v n l f compatibilities weights → found ≡ (Ok tt) → point_count v ≤ length l
unfolding build_fault
passed_points v n l f compatibilities weights found e g =
    hold_count v l
    (pairs_passed v n (field_room f) l (pair_in f) (Held v n l f) (fields_holding v n l f) (then_none _ _ (sound_none 0 found e g)).0).0.hold.1

-- of version 1 the points play no part
module _ (v n : ℕ) (l other : List ℕ) (e : v ≡ 1) where
  pub first_weighed : points_of_table v l ≡ points_of_table v other
  first_weighed = first_points_lem v _ e ∙ sym (first_points_lem v _ e)

  pub first_fault : (f : Fields) (compatibilities weights : ℕ) → build_fault v n l f compatibilities weights ≡ build_fault v n other f compatibilities weights
  unfolding build_fault pairs_fault before_fault
  first_fault f compatibilities weights =
      let t : tables_fault v n (field_room f) l ≡ tables_fault v n (field_room f) other = tables_first v n (field_room f) l other e in
      rw (t, first_weighed)
