-- Reading's promise: every sheet with none of the faults is accepted, and no other; a refusal names a fault that is there, with none before it. Assumes nothing.
use mathlib.Core.Path.{◌≡◌, refl, sym, ap, ◌∙◌}
use mathlib.Core.List.{List}
use Prim.Native.Nat.{ℕ}
use Rattle.refusal.specs.Fault.{Fault, none, fault, ◌then◌}
use Rattle.refusal.specs.Answer.{finished, refused, Outcome, outcome, unless}
use Rattle.refusal.proofs.Faults.{then_none, none_then, by_then, unless_none, unless_fault, finished_none, refused_fault}
use Rattle.laws.specs.Lent.{filled}
use Rattle.laws.specs.Below.{table}
use Rattle.pool.specs.Sheet.{version_in, pairs_in, pool_of}
use Rattle.pool.specs.Tables.{Tables, tables, room, filled_fields, filled_tables}
use Rattle.pool.specs.Faults.{sheet_fault, tables_fault}
use Rattle.pool.specs.Calls.{Head, head_in, reading}
use Rattle.pool.specs.Faultless.{FaultlessSheet}
use Rattle.pool.specs.Faultless.{TablesHold}
use Rattle.pool.specs.Promises.{ReadFault, ReadsRightly}
use Rattle.pool.proofs.Rooms.{room_hold, hold_room}
use Rattle.pool.proofs.Points.{first_count}
use Rattle.pool.proofs.Reading.{tables_none, tables_passed, tables_fault_lem, tables_first, sheet_none, sheet_passed, sheet_fault_lem}

-- ## The call

module _ (b : List ℕ) (t : Tables) where
  abbrev held : Type 0
  held = TablesHold (version_in b) (pairs_in b) t

  reading_fault : (k o : ℕ) → (reading b t).answer ≡ refused k o → ReadFault b t k o
  unfolding reading
  reading_fault k o e =
      by_then (ReadFault b t) (sheet_fault b) _ (λ j p h. ReadFault.sheet j p (sheet_fault_lem b j p h))
      (λ f. tables_fault_lem (version_in b) (pairs_in b) (room t) t.points (ReadFault b t)
      (λ no. ReadFault.table_too_short (sheet_passed b f) (λ h. let r = hold_room (version_in b) (pairs_in b) t h in no r.0 r.1))) k o
      (refused_fault _ _ _ _ e)

  pub reading_none : FaultlessSheet b → held → reading b t ≡ outcome (finished (head_in b)) (filled_tables (pool_of b) t)
  unfolding reading
  reading_none s h =
      let r = hold_room (version_in b) (pairs_in b) t h in
      unless_none _ _ _ _ (none_then _ _ (sheet_none b s) ∙ tables_none (version_in b) (pairs_in b) (room t) t.points r.0 r.1)

  pub reading_passed : (h : Head) → (reading b t).answer ≡ finished h → (h ≡ head_in b) × FaultlessSheet b × held
  unfolding reading
  reading_passed h e =
      let f = finished_none _ _ _ _ e in
      let s = then_none _ _ f.0 in
      let r = tables_passed (version_in b) (pairs_in b) (room t) t.points s.1 in
      (sym f.1, sheet_passed b s.0, room_hold (version_in b) (pairs_in b) t r.0 r.1)

  reading-left : (k o : ℕ) → (reading b t).answer ≡ refused k o → (reading b t).lent ≡ t
  unfolding reading
  reading-left k o e = ap (λ (r : Outcome Head Tables). r.lent) (unless_fault _ _ _ _ k o (refused_fault _ _ _ _ e))

  -- of version 1 the points' table is left, whatever the answer
  first_unchanged : version_in b ≡ 1 → (points : List ℕ) → filled (pool_of b).points points ≡ points
  unfolding pool_of filled table
  first_unchanged e points = rw (first_count (version_in b) e)

  unchanged : version_in b ≡ 1 → (reading b t).lent.points ≡ t.points
  unfolding reading unless filled_tables
  unchanged e = go (sheet_fault b then tables_fault (version_in b) (pairs_in b) (room t) t.points)
    where
      go : (f : Fault) → (unless f (head_in b) (filled_tables (pool_of b) t) t).lent.points ≡ t.points
      go none = first_unchanged e t.points
      go (fault k o) = refl

  -- and any other makes no difference
  abbrev with : List ℕ → Tables
  with points = tables points t.fields t.shuffle

  unread : version_in b ≡ 1 → (points : List ℕ)
      → reading b (with points) ≡ outcome (reading b t).answer (tables points (reading b t).lent.fields (reading b t).lent.shuffle)
  unfolding reading unless room filled_tables
  unread e points =
      rw (tables_first (version_in b) (pairs_in b) (room t) points t.points e)
      (go (sheet_fault b then tables_fault (version_in b) (pairs_in b) (room t) t.points))
    where
      go : (f : Fault)
          → unless f (head_in b) (filled_tables (pool_of b) (with points)) (with points)
          ≡ outcome (unless f (head_in b) (filled_tables (pool_of b) t) t).answer
          (tables points (unless f (head_in b) (filled_tables (pool_of b) t) t).lent.fields (unless f (head_in b) (filled_tables (pool_of b) t) t).lent.shuffle)
      go none = ap (λ (p : List ℕ). outcome (finished (head_in b)) (tables p (filled_fields (pool_of b).pairs t.fields) (filled (pool_of b).shuffle t.shuffle))) (first_unchanged e points)
      go (fault k o) = refl

  pub reads_rightly : ReadsRightly b t (reading b t)
  reads_rightly =
      record {
        accepts = λ s h. ap (λ (r : Outcome Head Tables). r.answer) (reading_none s h);
        accepted = reading_passed;
        refuses = λ k o e. (reading_fault k o e, reading-left k o e);
        unchanged = unchanged;
        unread = unread;
      }
