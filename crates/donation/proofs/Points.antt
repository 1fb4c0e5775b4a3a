-- The points, for any values that they have. Assumes nothing.
use mathlib.Core.Path.{◌≡◌, refl, sym, ap, ap₂, ◌∙◌}
use mathlib.Core.Bool.{Bool, true, false, ◌&&◌, cond}
use Prim.Native.Nat.{ℕ, ◌+◌, ◌≤◌, ◌<◌, max}
use native.Mathlib.Nat.{le-max_left, le-max_right}
use native.Mathlib.Omega.{arith}
use borrow.Author.Tests.{eq-eqb, ne_eqb}
use lib.Dec.{eqb, leb}
use Rattle.laws.specs.Below.{count_below, one}
use Rattle.pool.specs.Pool.{Pair}
use Rattle.pool.specs.Points.{Points, document_points, has_points, points_of, heaviest}
use Rattle.pool.specs.Faultless.{SoundPoints}
use Rattle.pool.proofs.Points.{sound_heaviest}
use Rattle.donation.specs.Compatibility.{has, compatibility}
use Rattle.donation.specs.Promises.{SameOf, CountsMismatches, EdgeExamples, SharedExamples, PatientsOwnExamples, RegistryExamples, DocumentRange}
use Rattle.donation.specs.Weight.{young, senior, mismatches, mismatch_points, age_points, weight}
use Rattle.donation.proofs.Mismatched.{one_sided}
use Rattle.donation.proofs.NoOtherCount.{no_other_count}
use Rattle.donation.proofs.Compatible.{compatibility_same}

cond-most : (most : ℕ) (t : Bool) (x y : ℕ) → x ≤ most → y ≤ most → cond t x y ≤ most
cond-most most true x y h k = h
cond-most most false x y h k = k

-- ## No step gives more than the largest

module _ (points : Points) where
  abbrev largest_step : ℕ
  largest_step = max points.no_mismatch (max points.few_mismatches points.some_mismatches)

  mismatch_most : (count : ℕ) → mismatch_points points count ≤ largest_step
  unfolding mismatch_points
  mismatch_most count =
      let few = max points.few_mismatches points.some_mismatches in
      let fewer = le-max_right points.no_mismatch few in
      cond-most largest_step (eqb count 0) _ _ (le-max_left points.no_mismatch few)
      (cond-most largest_step (leb count 2) _ _ (omega (arith, fewer, le-max_left points.few_mismatches points.some_mismatches))
      (cond-most largest_step (leb count 4) _ _ (omega (arith, fewer, le-max_right points.few_mismatches points.some_mismatches)) (omega arith)))

  abbrev larger_age : ℕ
  larger_age = max points.equal_ages points.young_to_senior

  age_most : (donor patient : ℕ) → age_points points donor patient ≤ larger_age
  unfolding age_points
  age_most donor patient =
      cond-most larger_age (eqb donor patient) _ _ (le-max_left points.equal_ages points.young_to_senior)
      (cond-most larger_age (eqb donor young && eqb patient senior) _ _ (le-max_right points.equal_ages points.young_to_senior) (omega arith))

  -- "base, largest mismatch step and larger age step together"
  sum-most : (count donor patient : ℕ) → points.base + mismatch_points points count + age_points points donor patient ≤ heaviest points
  unfolding heaviest
  sum-most count donor patient = omega (arith, mismatch_most count, age_most donor patient)

  -- by points that 14 lets pass, it fits 16 bits
  pub weight_fits : SoundPoints points → (count donor patient : ℕ) → points.base + mismatch_points points count + age_points points donor patient ≤ 65535
  weight_fits s count donor patient = omega (arith, sum-most count donor patient, sound_heaviest points s)

  -- and so does the sum before the age step
  pub base_fits : SoundPoints points → (count : ℕ) → points.base + mismatch_points points count ≤ 65535
  base_fits s count = omega (arith, weight_fits s count young young)

-- ## W

module _ (points : Points) (pair : ℕ → Pair) (i j : ℕ) where
  pub weight_same : i ≡ j → weight points pair i j ≡ 0
  unfolding weight
  weight_same e = rw (eq-eqb i j e)

  abbrev apart : ℕ
  apart = mismatches (pair i).donor_antigens (pair j).patient_antigens

  weight_other : (i ≡ j → ⊥) → weight points pair i j
      ≡ points.base + mismatch_points points apart + age_points points (pair i).donor_age (pair j).patient_age
  unfolding weight
  weight_other h = rw (ne_eqb i j h)

  pub weight_least : (i ≡ j → ⊥) → points.base ≤ weight points pair i j
  weight_least h = rw (weight_other h) (omega arith)

  -- an edge that is present weighs something: no pair is compatible with itself
  pub present_weighs : SoundPoints points → compatibility pair i j ≡ 1 → 0 < weight points pair i j
  present_weighs sound h = omega (arith, sound.base, weight_least (λ e. omega (arith, h, compatibility_same pair i j e)))

  pub weight-most : (i ≡ j → ⊥) → weight points pair i j ≤ heaviest points
  weight-most h = rw (weight_other h) (sum-most points apart (pair i).donor_age (pair j).patient_age)

-- the documents' edge examples, and others, computed
pub edge_examples : EdgeExamples
unfolding weight document_points mismatches mismatch_points age_points has count_below one
edge_examples = refl

pub shared_examples : SharedExamples
unfolding weight document_points mismatches mismatch_points age_points has count_below one
shared_examples = refl

pub patients_own_examples : PatientsOwnExamples
unfolding weight document_points mismatches mismatch_points age_points has count_below one
patients_own_examples = refl

pub registry_examples : RegistryExamples
unfolding weight document_points has_points points_of mismatches mismatch_points age_points has count_below one
registry_examples = (refl, refl, refl)

pub document_range : DocumentRange
unfolding document_points heaviest
document_range pair i j h = (weight_least document_points pair i j h, weight-most document_points pair i j h)

module _ (points : Points) (pair : ℕ → Pair) (i : ℕ) where
  pub weight_alike : (j k : ℕ) → (i ≡ j → ⊥) → (i ≡ k → ⊥)
      → SameOf (pair i).donor_antigens (pair j).patient_antigens (pair k).patient_antigens
      → (pair j).patient_age ≡ (pair k).patient_age → weight points pair i j ≡ weight points pair i k
  weight_alike j k h g s e =
      weight_other points pair i j h
      ∙ ap₂ (λ (count age : ℕ). points.base + mismatch_points points count + age_points points (pair i).donor_age age) (one_sided _ _ _ s) e
      ∙ sym (weight_other points pair i k g)

  -- by any count of mismatches
  pub weight-counted : (count : ℕ → ℕ → ℕ) → CountsMismatches count → (j : ℕ) → (i ≡ j → ⊥)
      → weight points pair i j
      ≡ points.base
      + mismatch_points points (count (pair i).donor_antigens (pair j).patient_antigens)
      + age_points points (pair i).donor_age (pair j).patient_age
  weight-counted count c j h =
      weight_other points pair i j h
      ∙ ap (λ (m : ℕ). points.base + mismatch_points points m + age_points points (pair i).donor_age (pair j).patient_age)
      (sym (no_other_count count c _ _))
