-- What is found before a pair is registered, as document 02's faults. Assumes nothing.
use mathlib.Core.Path.{◌≡◌, sym, ◌∙◌}
use mathlib.Core.Bool.{Bool, true, false}
use mathlib.Core.List.{List}
use Prim.Native.Nat.{ℕ, ◌+◌, ◌≤◌, ◌<◌}
use native.Mathlib.Nat.{le_trans}
use borrow.Author.Tests.{lt-ltb, eq-eqb, ne_eqb}
use lib.Dec.{eqb}
use lib.ListN.{length}
use Rattle.laws.specs.Below.{any_below}
use Rattle.refusal.specs.Fault.{Fault, ◌then◌, first_below}
use Rattle.refusal.specs.Number.{fault_at}
use Rattle.refusal.specs.declared.Refusal.{Refusal}
use Rattle.refusal.specs.declared.Refusal.TheVariants.{RepeatedId, TooManyTogether, TooShort}
use Rattle.std.specs.Prelude.{Result, Ok, Err}
use Rattle.refusal.proofs.Faults.{then_none, none_then, fault_then, then_assoc, none_refuse, fault_refuse, sound_none, faulty_fault, sound_then, faulty_then}
use Rattle.pool.specs.Pool.{Pair}
use Rattle.pool.specs.Faults.{id_fault, room_fault}
use Rattle.pool.proofs.Reading.{room_none}
use Rattle.pool.specs.Tables.{Fields}
use Rattle.checks.specs.Preconditions.{TablesHaveRoom}
use Rattle.live.specs.Faults.{graph_fault, stored_fault, groups_fault, range_fault, like_fault, more_fault}
use Rattle.live.proofs.Sizes.{sizes_passed}

-- ## 6 and 7 over all pairs: what was found of the groups of the stored ones, of the new one's, and of the stored ids

module _ (n : ℕ) (stored : ℕ → Pair) (new : Pair) where
  abbrev Both : Fault
  Both = range_fault n stored new then like_fault n stored new

  module _ (groups : Result Unit Refusal) (e : fault_at 0 groups ≡ first_below n (λ i. groups_fault (stored i))) where
    pub stored_groups : (why : Refusal) → groups ≡ Err why → fault_at 0 (Err why) ≡ Both
    unfolding fault_at range_fault
    stored_groups why g = sym (fault_then _ _ (fault_then _ _ (faulty_fault 0 groups e why g)))

    module _ (s : groups ≡ (Ok tt)) (own : Result Unit Refusal) (f : fault_at 0 own ≡ groups_fault new) where
      pub new_groups : (why : Refusal) → own ≡ Err why → fault_at 0 (Err why) ≡ Both
      unfolding fault_at range_fault
      new_groups why g = sym (fault_then _ _ (none_then _ _ (sound_none 0 groups e s) ∙ faulty_fault 0 own f why g))

      module _ (t : own ≡ (Ok tt)) (ids : Result Unit Refusal) (h : fault_at 0 ids ≡ first_below n (id_fault 0 (λ j. (stored j).id))) where
        in_range_lem : Both ≡ like_fault n stored new
        unfolding range_fault
        in_range_lem = none_then _ _ (none_then _ _ (sound_none 0 groups e s) ∙ sound_none 0 own f t)

        pub stored_ids : (why : Refusal) → ids ≡ Err why → fault_at 0 (Err why) ≡ Both
        unfolding fault_at like_fault
        stored_ids why g = sym (in_range_lem ∙ fault_then _ _ (faulty_fault 0 ids h why g))

        module _ (u : ids ≡ (Ok tt)) (again : Bool) (k : again ≡ any_below n (λ j. eqb (stored j).id new.id)) where
          pub new_again : again ≡ true → fault_at 0 (Err RepeatedId) ≡ Both
          unfolding fault_at like_fault
          new_again g = sym (in_range_lem ∙ none_then _ _ (sound_none 0 ids h u) ∙ fault_refuse 7 0 _ (sym k ∙ g))

          pub all_unlike : again ≡ false → fault_at 0 (Ok tt) ≡ Both
          unfolding fault_at like_fault
          all_unlike g = sym (in_range_lem ∙ none_then _ _ (sound_none 0 ids h u) ∙ none_refuse 7 0 _ (sym k ∙ g))

-- ## 12 and 9 of one more

module _ (n space compatibilities weights : ℕ) where
  pub more_full : n ≡ 200 → fault_at 0 (Err TooManyTogether) ≡ more_fault n space compatibilities weights
  unfolding fault_at more_fault
  more_full e = sym (fault_then _ _ (fault_refuse 12 0 _ (eq-eqb n 200 e)))

  module _ (d : n ≡ 200 → ⊥) where
    pub more_short : space < n + 1 → fault_at 0 (Err TooShort) ≡ more_fault n space compatibilities weights
    unfolding fault_at more_fault room_fault
    more_short l =
        sym (none_then _ _ (none_refuse 12 0 _ (ne_eqb n 200 d)) ∙ fault_then _ _ (fault_refuse 9 0 _ (lt-ltb space (n + 1) l)))

    pub more_rows : n + 1 ≤ space → (rows : Result Unit Refusal) → fault_at 0 rows ≡ graph_fault (n + 1) compatibilities weights
        → fault_at 0 rows ≡ more_fault n space compatibilities weights
    unfolding more_fault
    more_rows l rows e = e ∙ sym (none_then _ _ (none_refuse 12 0 _ (ne_eqb n 200 d)) ∙ none_then _ _ (room_none space (n + 1) l))

-- ## All of them, in their order: `kept`, `pairs` and `more` were found

module _ (K R L M : Fault) (kept : Result Unit Refusal) (e : fault_at 0 kept ≡ K) where
  pub judged_kept : (why : Refusal) → kept ≡ Err why → fault_at 0 (Err why) ≡ (K then R then L then M)
  unfolding fault_at
  judged_kept why g = faulty_then 0 kept _ _ e why g

  module _ (s : kept ≡ (Ok tt)) (pairs : Result Unit Refusal) (f : fault_at 0 pairs ≡ (R then L)) where
    pub judged_pairs : (why : Refusal) → pairs ≡ Err why → fault_at 0 (Err why) ≡ (K then R then L then M)
    unfolding fault_at
    judged_pairs why g = sound_then 0 kept _ _ e s (faulty_then 0 pairs _ M f why g ∙ then_assoc R L M)

    pub judged_more : pairs ≡ (Ok tt) → (more : Result Unit Refusal) → fault_at 0 more ≡ M → fault_at 0 more ≡ (K then R then L then M)
    judged_more g more h = sound_then 0 kept _ _ e s (sound_then 0 pairs _ M f g h ∙ then_assoc R L M)

-- what 4, 9, 14 and 10 let pass is at most 200, and fits the tables with an entry for each pair
pub stored_fits : (n space : ℕ) (m : List ℕ) (weights : ℕ) (points numbers : List ℕ) (found : Result Unit Refusal)
    → fault_at 0 found ≡ stored_fault n space m weights points numbers → found ≡ (Ok tt) → (n ≤ 200) × (n ≤ space)
unfolding stored_fault
stored_fits n space m weights points numbers found e g =
    let s = sizes_passed n space (length m) weights points (then_none _ _ (sound_none 0 found e g)).0 in
    (s.0, s.1)

-- tables with room for `space` have room for fewer
pub room_fewer : (n space : ℕ) {f : Fields} → n ≤ space
    → TablesHaveRoom space f → TablesHaveRoom n f
room_fewer n space l h =
    record {
      in_ids = le_trans l h.in_ids;
      in_donor_blood = le_trans l h.in_donor_blood;
      in_patient_blood = le_trans l h.in_patient_blood;
      in_donor_age = le_trans l h.in_donor_age;
      in_patient_age = le_trans l h.in_patient_age;
    }
