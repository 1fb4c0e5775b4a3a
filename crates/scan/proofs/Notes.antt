-- The ids of the pairs passed, noted to be held to later ones. Assumes nothing.
use mathlib.Core.Path.{◌≡◌, sym, ◌∙◌}
use mathlib.Core.List.{List}
use Prim.Native.Nat.{ℕ, ◌+◌, ◌<◌}
use native.Mathlib.Numerals.{add-one}
use native.Mathlib.Omega.{arith}
use lib.ListN.{length, get_or, set, length-set}
use lib.Seq.{get_or-set_same, get_or-set_other}
use Rattle.laws.proofs.Below.{below_suc}
use Rattle.laws.proofs.Digits.{big_endian-one}
use Rattle.pool.specs.Sheet.{donor_blood_at, patient_blood_at, donor_age_at, patient_age_at, pair_at, pair_due}
use Rattle.checks.specs.Preconditions.{PairAgrees}
use Rattle.scan.specs.Preconditions.{Noted}

module _ (b : List ℕ) where
  pub noted_none : (ids : List ℕ) → Noted b 0 ids
  noted_none ids = record { held = omega arith; noted = λ j l. absurd (omega arith) }

  pub noted_more : (i : ℕ) (ids : List ℕ) (id : ℕ) → Noted b i ids → i < length ids → id ≡ (pair_at b i).id → Noted b (i + 1) (set ids i id)
  noted_more i ids id w l e =
      record {
        held = simp length-set (omega arith);
        noted =
            λ j k.
            below_suc {P = λ j. get_or (set ids i id) j 0 ≡ (pair_at b j).id} i
            (λ j k. get_or-set_other ids i j id 0 (omega arith) ∙ w.noted j k)
            (get_or-set_same ids i id 0 l ∙ e) j (rw add-one at k);
      }

  -- pair i, by its id among those noted and by the bytes of its groups
  pub agree_at : (i : ℕ) (ids : List ℕ) → Noted b (i + 1) ids
      → PairAgrees (pair_at b) i ids (get_or b (pair_due b i + donor_blood_at) 0) (get_or b (pair_due b i + patient_blood_at) 0) (get_or b (pair_due b i + donor_age_at) 0) (get_or b (pair_due b i + patient_age_at) 0)
  unfolding pair_at
  agree_at i ids w =
      record {
        id = λ j l. sym (w.noted j (omega arith));
        has_donor_blood = big_endian-one b (pair_due b i + donor_blood_at);
        has_patient_blood = big_endian-one b (pair_due b i + patient_blood_at);
        has_donor_age = big_endian-one b (pair_due b i + donor_age_at);
        has_patient_age = big_endian-one b (pair_due b i + patient_age_at);
      }
