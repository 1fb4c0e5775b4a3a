-- What the checks find, as document 01's faults. Assumes nothing.
use mathlib.Core.Path.{◌≡◌, refl, sym, ap, ap₂, ◌∙◌}
use mathlib.Core.Bool.{Bool, true, false}
use mathlib.Core.List.{List}
use Prim.Native.Nat.{ℕ, ◌≤◌, ◌<◌}
use native.Mathlib.Nat.{le_refl}
use native.Mathlib.Omega.{arith}
use borrow.Author.Tests.{lt-ltb, le-ltb, ltb-false}
use lib.Dec.{eqb, ltb}
use lib.ListN.{length, get_or}
use Rattle.laws.specs.Below.{any_below}
use Rattle.laws.proofs.Below.{any_cong}
use Rattle.refusal.specs.Fault.{none, refuse, ◌then◌, first_below}
use Rattle.refusal.specs.Number.{fault_at}
use Rattle.refusal.specs.declared.Refusal.{Refusal}
use Rattle.refusal.specs.declared.Refusal.TheVariants.{WrongVersion, RepeatedId, TooManyPairs, TooShort}
use Rattle.std.specs.Prelude.{Result, Ok, Err}
use Rattle.refusal.proofs.Faults.{sound_none, faulty_fault, then_none, none_then, fault_then, refuse_none, none_refuse, fault_refuse, first_hit}
use Rattle.pool.specs.Pool.{Pair}
use Rattle.pool.specs.Points.{known_version, point_count, points_of}
use Rattle.pool.specs.Tables.{item_in, Fields, pair_in}
use Rattle.pool.specs.Faults.{version_fault, group_fault, id_fault, pair_fault, points_fault, room_fault, tables_fault, before_fault, pairs_fault}
use Rattle.pool.proofs.Points.{known_version_lem, version_none}
use Rattle.pool.proofs.Reading.{room_none, tables_passed}
use Rattle.checks.specs.Preconditions.{PairAgrees}

-- ## One pair: `found` is what the check of its groups found, `again` whether its id is an earlier one's

module _ (o : ℕ) (p : ℕ → Pair) (i : ℕ) (ids : List ℕ) (donor_blood patient_blood donor_age patient_age : ℕ)
    (agree : PairAgrees p i ids donor_blood patient_blood donor_age patient_age) where
  -- the fault by the table of ids and the groups
  pair_fault_lem : pair_fault o p i
      ≡ (group_fault o donor_blood patient_blood donor_age patient_age then refuse 7 o (any_below i (λ j. eqb (get_or ids j 0) (get_or ids i 0))))
  unfolding pair_fault id_fault
  pair_fault_lem =
      let e : any_below i (λ j. eqb (p j).id (p i).id) ≡ any_below i (λ j. eqb (get_or ids j 0) (get_or ids i 0)) =
      any_cong i (λ j. eqb (p j).id (p i).id) (λ j. eqb (get_or ids j 0) (get_or ids i 0))
      (λ j l. ap₂ eqb (agree.id j (omega arith)) (agree.id i (le_refl i))) in
      rw (e, agree.has_donor_blood, agree.has_patient_blood, agree.has_donor_age, agree.has_patient_age)

  module _ (found : Result Unit Refusal) (e : fault_at o found ≡ group_fault o donor_blood patient_blood donor_age patient_age) where
    pub pair_group : (why : Refusal) → found ≡ Err why → fault_at o (Err why) ≡ pair_fault o p i
    unfolding fault_at
    pair_group why f =
        sym
        (pair_fault_lem
        ∙ fault_then (group_fault o donor_blood patient_blood donor_age patient_age)
        (refuse 7 o (any_below i (λ j. eqb (get_or ids j 0) (get_or ids i 0)))) (faulty_fault o found e why f))

    module _ (f : found ≡ (Ok tt)) (again : Bool) (g : again ≡ any_below i (λ j. eqb (get_or ids j 0) (get_or ids i 0))) where
      pair_id : pair_fault o p i ≡ refuse 7 o again
      pair_id = pair_fault_lem ∙ none_then _ _ (sound_none o found e f) ∙ ap (refuse 7 o) (sym g)

      pub pair_again : again ≡ true → fault_at o (Err RepeatedId) ≡ pair_fault o p i
      unfolding fault_at refuse
      pair_again h = sym (pair_id ∙ rw h)

      pub pair_sound : again ≡ false → fault_at o (Ok tt) ≡ pair_fault o p i
      unfolding fault_at refuse
      pair_sound h = sym (pair_id ∙ rw h)

-- a pair of lent tables has what stands there
pub agree_in : (f : Fields) (i : ℕ)
    → PairAgrees (pair_in f) i f.ids (get_or f.donor_blood i 0) (get_or f.patient_blood i 0) (get_or f.donor_age i 0) (get_or f.patient_age i 0)
unfolding pair_in
agree_in f i =
    record { id = λ j l. refl; has_donor_blood = refl; has_patient_blood = refl; has_donor_age = refl; has_patient_age = refl }

-- ## 9 of the tables, by their lengths

module _ (v n space : ℕ) (points : List ℕ) where
  pub space_short : space < n → fault_at 0 (Err TooShort) ≡ tables_fault v n space points
  unfolding fault_at tables_fault room_fault
  space_short l = sym (fault_then _ _ (fault_refuse 9 0 _ (lt-ltb space n l)))

  module _ (fit : n ≤ space) where
    after-space : tables_fault v n space points ≡ room_fault (length points) (point_count v)
    unfolding tables_fault
    after-space = none_then _ _ (room_none space n fit)

    pub points_short : length points < point_count v → fault_at 0 (Err TooShort) ≡ tables_fault v n space points
    unfolding fault_at room_fault
    points_short l = sym (after-space ∙ fault_refuse 9 0 _ (lt-ltb (length points) (point_count v) l))

    pub tables_sound : point_count v ≤ length points → fault_at 0 (Ok tt) ≡ tables_fault v n space points
    unfolding fault_at
    tables_sound l = sym (after-space ∙ room_none (length points) (point_count v) l)

-- ## 3, 4, 9 and 14: `known` is what the test of the version says

module _ (v n space : ℕ) (points : List ℕ) where
  pub before_version : known_version v ≡ false → fault_at 0 (Err WrongVersion) ≡ before_fault v n space points
  unfolding fault_at before_fault version_fault refuse ◌then◌
  before_version e = rw e

  module _ (known : known_version v ≡ true) where
    after_version : before_fault v n space points
        ≡ (refuse 4 0 (ltb 200 n) then tables_fault v n space points then points_fault 0 (points_of v (item_in points)))
    unfolding before_fault
    after_version = none_then _ _ (version_none v 0 (known_version_lem v known))

    pub before_many : 200 < n → fault_at 0 (Err TooManyPairs) ≡ before_fault v n space points
    unfolding fault_at
    before_many l = sym (after_version ∙ fault_then _ _ (fault_refuse 4 0 _ (lt-ltb 200 n l)))

    module _ (few : n ≤ 200) (found : Result Unit Refusal) (e : fault_at 0 found ≡ tables_fault v n space points) where
      after_many : before_fault v n space points ≡ (tables_fault v n space points then points_fault 0 (points_of v (item_in points)))
      after_many = after_version ∙ none_then _ _ (none_refuse 4 0 _ (le-ltb 200 n few))

      pub before_tables : (why : Refusal) → found ≡ Err why → fault_at 0 (Err why) ≡ before_fault v n space points
      unfolding fault_at
      before_tables why g = sym (after_many ∙ fault_then _ _ (faulty_fault 0 found e why g))

      pub before_points : found ≡ (Ok tt) → (own : Result Unit Refusal) → fault_at 0 own ≡ points_fault 0 (points_of v (item_in points))
          → fault_at 0 own ≡ before_fault v n space points
      before_points g own h = h ∙ sym (after_many ∙ none_then _ _ (sound_none 0 found e g))

pub before_fits : (v n space : ℕ) (points : List ℕ) (found : Result Unit Refusal) → fault_at 0 found ≡ before_fault v n space points → found ≡ (Ok tt)
    → (n ≤ 200) × (n ≤ space)
unfolding before_fault
before_fits v n space points found e g =
    let s1 = then_none _ _ (then_none _ _ (sound_none 0 found e g)).1 in
    let s2 = then_none _ _ s1.1 in
    (ltb-false _ _ (refuse_none _ _ _ s1.0), (tables_passed v n space points s2.0).0)

-- ## The first n pairs of tables of which the shortest has `space` entries: `found` is what was found before them

module _ (v n space : ℕ) (points : List ℕ) (p : ℕ → Pair) (found : Result Unit Refusal) (e : fault_at 0 found ≡ before_fault v n space points) where
  pub pairs_before : (why : Refusal) → found ≡ Err why → fault_at 0 (Err why) ≡ pairs_fault v n space points p
  unfolding fault_at pairs_fault
  pairs_before why g = sym (fault_then _ _ (faulty_fault 0 found e why g))

  module _ (g : found ≡ (Ok tt)) where
    after_before : pairs_fault v n space points p ≡ first_below n (pair_fault 0 p)
    unfolding pairs_fault
    after_before = none_then _ _ (sound_none 0 found e g)

    -- the first i have no fault, and this was found of the i-th
    pub pairs_found : (i : ℕ) → i < n → first_below i (pair_fault 0 p) ≡ none → (here : Result Unit Refusal) → fault_at 0 here ≡ pair_fault 0 p i → (why : Refusal)
        → here ≡ Err why → fault_at 0 (Err why) ≡ pairs_fault v n space points p
    unfolding fault_at
    pairs_found i l f here h why t = sym (after_before ∙ first_hit n (pair_fault 0 p) i l f (faulty_fault 0 here h why t))

    pub pairs_sound : (i : ℕ) → i ≡ n → first_below i (pair_fault 0 p) ≡ none → fault_at 0 (Ok tt) ≡ pairs_fault v n space points p
    unfolding fault_at
    pairs_sound i h f = sym (after_before ∙ ap (λ (k : ℕ). first_below k (pair_fault 0 p)) (sym h) ∙ f)
