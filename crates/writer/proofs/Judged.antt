-- What the writer's checks found is the pool's first fault. Assumes nothing.
use mathlib.Core.Path.{◌≡◌, sym, ap, ◌∙◌}
use Prim.Native.Nat.{ℕ, ◌≤◌, min}
use native.Mathlib.Nat.{min-le_left}
use lib.ListN.{length}
use Rattle.refusal.specs.Number.{fault_at}
use Rattle.refusal.specs.declared.Refusal.{Refusal}
use Rattle.std.specs.Prelude.{Result, Ok, Err}
use Rattle.refusal.proofs.Faults.{sound_none, faulty_fault, none_then, fault_then}
use Rattle.pool.specs.Tables.{Tables, item_in, field_room, room, pair_in}
use Rattle.pool.specs.Faults.{pairs_fault, shuffle_fault, pool_fault}
use Rattle.pool.proofs.Rooms.{field_room_hold}
use Rattle.pool.proofs.Writing.{pairs_passed, tables_holding}
use Rattle.pool.specs.Faultless.{TablesHold}
use Rattle.checks.specs.Preconditions.{TablesHaveRoom}

-- ## The shortest table

pub shortest_room : (t : Tables) (held shortest : ℕ) → held ≡ field_room t.fields → shortest ≡ min held (length t.shuffle) → shortest ≡ room t
unfolding room
shortest_room t held shortest e f = f ∙ ap (λ (k : ℕ). min k (length t.shuffle)) e

pub room_spaced : (t : Tables) (space : ℕ) → space ≡ room t
    → TablesHaveRoom space t.fields
unfolding room
room_spaced t space e =
    let h = field_room_hold space t.fields (rw e (min-le_left _ _)) in
    record { in_ids = h.ids; in_donor_blood = h.donor_blood; in_patient_blood = h.patient_blood; in_donor_age = h.donor_age; in_patient_age = h.patient_age }

-- ## The pairs, and then the shuffle: `pairs` is what was found of the first, `drawn` of the second

module _ (v n : ℕ) (t : Tables) (shortest : ℕ) (e : shortest ≡ room t) (pairs : Result Unit Refusal)
    (f : fault_at 0 pairs ≡ pairs_fault v n shortest t.points (pair_in t.fields)) where
  pairs_fault_lem : fault_at 0 pairs ≡ pairs_fault v n (room t) t.points (pair_in t.fields)
  pairs_fault_lem = f ∙ ap (λ (k : ℕ). pairs_fault v n k t.points (pair_in t.fields)) e

  pub judged_pairs : (why : Refusal) → pairs ≡ Err why → fault_at 0 (Err why) ≡ pool_fault v n t
  unfolding fault_at pool_fault
  judged_pairs why g = sym (fault_then _ _ (faulty_fault 0 pairs pairs_fault_lem why g))

  module _ (g : pairs ≡ (Ok tt)) where
    pub judged-held : n ≤ length t.shuffle
    judged-held =
        (pairs_passed v n (room t) t.points (pair_in t.fields) (TablesHold v n t) (tables_holding v n t) (sound_none 0 pairs pairs_fault_lem g)).0.hold.shuffle

    pub judged_shuffle : (drawn : Result Unit Refusal) → fault_at 0 drawn ≡ shuffle_fault 0 n (item_in t.shuffle) → fault_at 0 drawn ≡ pool_fault v n t
    unfolding pool_fault
    judged_shuffle drawn h = h ∙ sym (none_then _ _ (sound_none 0 pairs pairs_fault_lem g))
