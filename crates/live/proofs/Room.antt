-- The room of a live pool: tables that hold so many pairs are those with that room. Assumes nothing.
use Prim.Native.Nat.{ℕ, ◌≤◌}
use native.Mathlib.Nat.{le_trans, min-le_left, min-le_right, le-min}
use lib.ListN.{length}
use Rattle.pool.specs.Faultless.{FieldsHold}
use Rattle.pool.proofs.Rooms.{field_room_hold, hold_field_room}
use Rattle.live.specs.Live.{Live, pair_room}

module _ (l : Live) where
  pub pairs_hold : (k : ℕ) → k ≤ pair_room l → FieldsHold k l.fields × (k ≤ length l.suitable)
  unfolding pair_room
  pairs_hold k h = (field_room_hold k l.fields (le_trans h (min-le_left _ _)), le_trans h (min-le_right _ _))

  pub hold_pairs : (k : ℕ) → FieldsHold k l.fields → k ≤ length l.suitable → k ≤ pair_room l
  unfolding pair_room
  hold_pairs k f s = le-min (hold_field_room k l.fields f) s
