-- Versions and points: what has none of 3 and 14, and that each is there; what version 2 has and version 1 has not. Assumes nothing.
use mathlib.Core.Path.{◌≡◌, refl, sym, ap, subst}
use mathlib.Core.Bool.{Bool, true, false, not, cond}
use mathlib.Core.Logic.{⊎_elim}
use mathlib.Core.List.{List}
use Prim.Native.Nat.{ℕ, ◌+◌, ◌*◌, ◌≤◌, ◌<◌, max}
use native.Mathlib.Nat.{le-max_left, le-max_right, max-eq_left, max-eq_right}
use native.Mathlib.Omega.{arith}
use native.Mathlib.Decide.{dec_lt}
use borrow.Author.Tests.{le-ltb, ltb-false, eq-eqb, ne_eqb, eqb-true, eqb-false, not-true, not-false}
use lib.Dec.{eqb, ltb}
use lib.ListN.{length}
use Rattle.laws.specs.Below.{either}
use Rattle.laws.proofs.Below.{true_false, either_false, either-found}
use Rattle.refusal.specs.Fault.{none, fault}
use Rattle.refusal.proofs.Faults.{refuse_none, none_refuse, by_refuse}
use Rattle.pool.specs.Points.{Points, document_points, registry_points, points_by, known_version, has_points, point_count, points_of, heaviest}
use Rattle.pool.specs.Sheet.{points_size}
use Rattle.pool.specs.Faults.{version_fault, points_fault}
use Rattle.pool.specs.Faultless.{KnownVersion, StepFits, SoundPoints, PointsHold}

-- ## Versions

module _ (v : ℕ) where
  pub known_version_lem : known_version v ≡ true → KnownVersion v
  unfolding known_version
  known_version_lem e =
      ⊎_elim (λ h. let q : v ≡ 1 = eqb-true v 1 h in record { least = omega (arith, q); most = omega (arith, q) })
      (λ h. let q : v ≡ 2 = eqb-true v 2 h in record { least = omega (arith, q); most = omega (arith, q) }) (either-found _ _ e)

  pub version_known : KnownVersion v → known_version v ≡ true
  unfolding known_version either
  version_known k = go (dec_lt v 2)
    where
      go : Dec (v < 2) → either (eqb v 1) (eqb v 2) ≡ true
      go (yes l) =
          let q : v ≡ 1 = omega (arith, l, k.least) in
          rw q
      go (no l) =
          let q : v ≡ 2 = omega (arith, l, k.most) in
          rw q

  module _ (o : ℕ) where
    pub version_none : KnownVersion v → version_fault o v ≡ none
    unfolding version_fault
    version_none k = none_refuse 3 o _ (ap not (version_known k))

    pub version_passed : version_fault o v ≡ none → KnownVersion v
    unfolding version_fault
    version_passed e = known_version_lem (not-false _ (refuse_none _ _ _ e))

    pub version_fault_lem : (P : ℕ → ℕ → Type 0) → ((KnownVersion v → ⊥) → P 3 o) → (k p : ℕ) → version_fault o v ≡ fault k p → P k p
    unfolding version_fault
    version_fault_lem P three = by_refuse P 3 o _ (λ e. three (λ k. true_false (version_known k) (not-true _ e)))

  -- ## Version 2 has points, version 1 has none

  pub has_second : has_points v ≡ true → v ≡ 2
  unfolding has_points
  has_second e = eqb-true v 2 e

  pub second_has : v ≡ 2 → has_points v ≡ true
  unfolding has_points
  second_has e = eq-eqb v 2 e

  pub first_has : v ≡ 1 → has_points v ≡ false
  unfolding has_points
  first_has e = rw e

  pub first_count : v ≡ 1 → point_count v ≡ 0
  unfolding point_count
  first_count e = rw (first_has e)

  pub second_count : v ≡ 2 → point_count v ≡ registry_points
  unfolding point_count
  second_count e = rw (second_has e)

  pub first_size : v ≡ 1 → points_size v ≡ 0
  unfolding points_size
  first_size e = rw (first_has e)

  pub second_size : v ≡ 2 → points_size v ≡ 15
  unfolding points_size
  second_size e = rw (second_has e)

  pub size_most : points_size v ≤ 15
  unfolding points_size
  size_most = go (has_points v)
    where
      go : (t : Bool) → cond t 15 0 ≤ 15
      go true = omega arith
      go false = omega arith

  pub count_most : point_count v ≤ 6
  unfolding point_count
  count_most = go (has_points v)
    where
      go : (t : Bool) → cond t 6 0 ≤ 6
      go true = omega arith
      go false = omega arith

  -- the points' field has room for them
  pub count_size : 2 * point_count v ≤ points_size v
  unfolding point_count points_size
  count_size = go (has_points v)
    where
      go : (t : Bool) → 2 * cond t 6 0 ≤ cond t 15 0
      go true = omega arith
      go false = omega arith

  -- there is no point k of version 1
  pub counted_second : (k : ℕ) → k < point_count v → v ≡ 2
  unfolding point_count
  counted_second k = go (has_points v) has_second
    where
      go : (t : Bool) → (t ≡ true → v ≡ 2) → k < cond t 6 0 → v ≡ 2
      go true e l = e refl
      go false e l = absurd (omega (arith, l))

  pub hold_count : (points : List ℕ) → PointsHold v points → point_count v ≤ length points
  unfolding point_count
  hold_count points h = go (has_points v) has_second
    where
      go : (t : Bool) → (t ≡ true → v ≡ 2) → cond t 6 0 ≤ length points
      go true e = h (e refl)
      go false e = omega arith

  pub count_hold : (points : List ℕ) → point_count v ≤ length points → PointsHold v points
  unfolding point_count
  count_hold points l e = omega (arith, l, second_count e)

-- ## Points

by_max : (P : ℕ → Type 0) (a b : ℕ) → P a → P b → P (max a b)
by_max P a b h k = go (dec_lt a b)
  where
    go : Dec (a < b) → P (max a b)
    go (yes l) =
        let q : a ≤ b = omega (arith, l) in
        subst P (sym (max-eq_right q)) k
    go (no l) =
        let q : b ≤ a = omega (arith, l) in
        subst P (sym (max-eq_left q)) h

module _ (q : Points) where
  pub sound_heaviest : SoundPoints q → heaviest q ≤ 65535
  unfolding heaviest
  sound_heaviest s =
      let with-age : (step : ℕ) → StepFits q step → q.base + step + max q.equal_ages q.young_to_senior ≤ 65535 =
      λ step f. by_max (λ a. q.base + step + a ≤ 65535) _ _ f.equal_ages f.young_to_senior in
      let P : ℕ → Type 0 = λ m. q.base + m + max q.equal_ages q.young_to_senior ≤ 65535 in
      by_max P _ _ (with-age _ s.no_mismatch) (by_max P _ _ (with-age _ s.few_mismatches) (with-age _ s.some_mismatches))

  pub heaviest_sound : 0 < q.base → heaviest q ≤ 65535 → SoundPoints q
  unfolding heaviest
  heaviest_sound b l =
      let few = max q.few_mismatches q.some_mismatches in
      let m1 = le-max_left q.no_mismatch few in
      let m2 = le-max_right q.no_mismatch few in
      let m3 = le-max_left q.few_mismatches q.some_mismatches in
      let m4 = le-max_right q.few_mismatches q.some_mismatches in
      let a1 = le-max_left q.equal_ages q.young_to_senior in
      let a2 = le-max_right q.equal_ages q.young_to_senior in
      record {
        base = b;
        no_mismatch = record { equal_ages = omega (arith, l, m1, a1); young_to_senior = omega (arith, l, m1, a2) };
        few_mismatches = record { equal_ages = omega (arith, l, m2, m3, a1); young_to_senior = omega (arith, l, m2, m3, a2) };
        some_mismatches = record { equal_ages = omega (arith, l, m2, m4, a1); young_to_senior = omega (arith, l, m2, m4, a2) };
      }

  sound_tests : SoundPoints q → either (eqb q.base 0) (ltb 65535 (heaviest q)) ≡ false
  unfolding either
  sound_tests s = rw (ne_eqb q.base 0 (λ e. omega (arith, e, s.base)), le-ltb 65535 (heaviest q) (sound_heaviest s))

  module _ (o : ℕ) where
    pub points_none : SoundPoints q → points_fault o q ≡ none
    unfolding points_fault
    points_none s = none_refuse 14 o _ (sound_tests s)

    pub points_passed : points_fault o q ≡ none → SoundPoints q
    unfolding points_fault
    points_passed e =
        let r = either_false _ _ (refuse_none _ _ _ e) in
        heaviest_sound (some_base (eqb-false _ _ r.0)) (ltb-false _ _ r.1)
      where
        some_base : (q.base ≡ 0 → ⊥) → 0 < q.base
        some_base h = go (dec_lt 0 q.base)
          where
            go : Dec (0 < q.base) → 0 < q.base
            go (yes l) = l
            go (no l) =
                let z : q.base ≡ 0 = omega (arith, l) in
                absurd (h z)

    pub points_fault_lem : (P : ℕ → ℕ → Type 0) → ((SoundPoints q → ⊥) → P 14 o) → (k p : ℕ) → points_fault o q ≡ fault k p → P k p
    unfolding points_fault
    points_fault_lem P fourteen = by_refuse P 14 o _ (λ e. fourteen (λ s. true_false e (sound_tests s)))

-- ## What a pool is weighed by

-- six numbers that are alike
pub points_by_cong : (p r : ℕ → ℕ) → ((k : ℕ) → k < registry_points → p k ≡ r k) → points_by p ≡ points_by r
points_by_cong p r h i =
    record {
      base = h 0 (omega arith) i;
      no_mismatch = h 1 (omega arith) i;
      few_mismatches = h 2 (omega arith) i;
      some_mismatches = h 3 (omega arith) i;
      equal_ages = h 4 (omega arith) i;
      young_to_senior = h 5 (omega arith) i;
    }

pub document_sound : SoundPoints document_points
unfolding document_points heaviest
document_sound = heaviest_sound document_points (omega arith) (omega arith)

module _ (v : ℕ) where
  pub first_points_lem : (p : ℕ → ℕ) → v ≡ 1 → points_of v p ≡ document_points
  unfolding points_of
  first_points_lem p e = rw (first_has v e)

  pub second_points_lem : (p : ℕ → ℕ) → v ≡ 2 → points_of v p ≡ points_by p
  unfolding points_of
  second_points_lem p e = rw (second_has v e)

  -- of version 2 its own points, and document 01's are sound
  pub sound_points : (p : ℕ → ℕ) → (v ≡ 2 → SoundPoints (points_by p)) → SoundPoints (points_of v p)
  unfolding points_of
  sound_points p h = go (has_points v) (has_second v)
    where
      go : (t : Bool) → (t ≡ true → v ≡ 2) → SoundPoints (cond t (points_by p) document_points)
      go true e = h (e refl)
      go false e = document_sound

  pub points_cong : (p r : ℕ → ℕ) → ((k : ℕ) → k < point_count v → p k ≡ r k) → points_of v p ≡ points_of v r
  unfolding points_of point_count
  points_cong p r = go (has_points v)
    where
      go : (t : Bool) → ((k : ℕ) → k < cond t 6 0 → p k ≡ r k) → cond t (points_by p) document_points ≡ cond t (points_by r) document_points
      go true h = points_by_cong p r h
      go false h = refl
