-- The shortest of the lent tables, and tables that can hold n pairs. Assumes nothing.
use Prim.Native.Nat.{ℕ, ◌≤◌}
use native.Mathlib.Nat.{le_trans, min-le_left, min-le_right, le-min}
use lib.ListN.{length}
use Rattle.pool.specs.Points.{point_count}
use Rattle.pool.specs.Tables.{Fields, Tables, field_room, room}
use Rattle.pool.specs.Faultless.{FieldsHold, TablesHold}
use Rattle.pool.proofs.Points.{hold_count, count_hold}

pub field_room_hold : (n : ℕ) (f : Fields) → n ≤ field_room f → FieldsHold n f
unfolding field_room
field_room_hold n f h =
    let h2 = le_trans h (min-le_right _ _) in
    let h3 = le_trans h2 (min-le_right _ _) in
    let h4 = le_trans h3 (min-le_right _ _) in
    let h5 = le_trans h4 (min-le_right _ _) in
    let h6 = le_trans h5 (min-le_right _ _) in
    let h7 = le_trans h6 (min-le_right _ _) in
    record {
      ids = le_trans h (min-le_left _ _);
      donor_blood = le_trans h2 (min-le_left _ _);
      patient_blood = le_trans h3 (min-le_left _ _);
      donor_age = le_trans h4 (min-le_left _ _);
      patient_age = le_trans h5 (min-le_left _ _);
      donor_antigens = le_trans h6 (min-le_left _ _);
      patient_antigens = le_trans h7 (min-le_left _ _);
      patient_antibodies = le_trans h7 (min-le_right _ _);
    }

pub hold_field_room : (n : ℕ) (f : Fields) → FieldsHold n f → n ≤ field_room f
unfolding field_room
hold_field_room n f h =
    le-min h.ids
    (le-min h.donor_blood
    (le-min h.patient_blood
    (le-min h.donor_age
    (le-min h.patient_age (le-min h.donor_antigens (le-min h.patient_antigens h.patient_antibodies))))))

pub room_hold : (v n : ℕ) (t : Tables) → n ≤ room t → point_count v ≤ length t.points → TablesHold v n t
unfolding room
room_hold v n t h k =
    record {
      points = count_hold v t.points k;
      fields = field_room_hold n t.fields (le_trans h (min-le_left _ _));
      shuffle = le_trans h (min-le_right _ _);
    }

pub hold_room : (v n : ℕ) (t : Tables) → TablesHold v n t → (n ≤ room t) × (point_count v ≤ length t.points)
unfolding room
hold_room v n t h = (le-min (hold_field_room n t.fields h.fields) h.shuffle, hold_count v t.points h.points)
