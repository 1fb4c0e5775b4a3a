-- Writing's promise: every pool with none of the faults is accepted, and no other; a refusal names a fault that is there. Assumes nothing.
use mathlib.Core.Path.{◌≡◌, refl, sym, ap, ◌∙◌}
use mathlib.Core.List.{List}
use Prim.Native.Nat.{ℕ, ◌≤◌}
use native.Mathlib.Omega.{arith}
use lib.ListN.{length}
use Rattle.laws.specs.Below.{table}
use Rattle.laws.specs.Lent.{filled}
use Rattle.laws.proofs.Below.{table_cong}
use Rattle.refusal.specs.Answer.{finished, refused, Outcome, outcome}
use Rattle.refusal.proofs.Faults.{then_none, none_then, by_then, unless_none, unless_fault, finished_none, refused_fault}
use Rattle.pool.specs.Points.{point_count, points_of}
use Rattle.pool.specs.Sheet.{sheet_length, sheet_of}
use Rattle.pool.specs.Tables.{Tables, tables, item_in, room, pair_in, pool_in}
use Rattle.pool.specs.Faults.{tables_fault, before_fault, pairs_fault, pool_fault}
use Rattle.pool.specs.Calls.{writing}
use Rattle.pool.specs.Faultless.{FaultlessPool, PoolFault, TablesHold}
use Rattle.pool.specs.Promises.{WritesRightly}
use Rattle.pool.proofs.Points.{first_count, first_points_lem}
use Rattle.pool.proofs.Lengths.{length_sheet_in}
use Rattle.pool.proofs.Pairs.{shuffle_fault_lem}
use Rattle.pool.proofs.Reading.{room_none, room_passed, room_fault_lem, tables_first}
use Rattle.pool.proofs.Writing.{pairs_passed, pairs_fault_lem, tables_holding, pool_none, pool_passed}

-- ## The call

module _ (v n : ℕ) (t : Tables) (out : List ℕ) where
  pub writing_none : FaultlessPool v n t → sheet_length v n ≤ length out
      → writing v n t out ≡ outcome (finished (length (sheet_of (pool_in v n t)))) (filled (sheet_of (pool_in v n t)) out)
  unfolding writing
  writing_none w l =
      unless_none _ _ _ _ (none_then _ _ (pool_none v n t w) ∙ room_none (length out) _ (rw (length_sheet_in v n t) l))

  pub writing_passed : (m : ℕ) → (writing v n t out).answer ≡ finished m → (m ≡ sheet_length v n) × FaultlessPool v n t × (m ≤ length out)
  unfolding writing
  writing_passed m e =
      let f = finished_none _ _ _ _ e in
      let s = then_none _ _ f.0 in
      (sym f.1 ∙ length_sheet_in v n t, pool_passed v n t s.0, rw (← f.1) (room_passed (length out) _ s.1))

  writing_fault : (k o : ℕ) → (writing v n t out).answer ≡ refused k o → (o ≡ 0) × PoolFault v n t (length out) k
  unfolding writing pool_fault
  writing_fault k o e =
      let P : ℕ → ℕ → Type 0 = λ k o. (o ≡ 0) × PoolFault v n t (length out) k in
      by_then P _ _
      (by_then P _ _
      (λ k o e. let f = pairs_fault_lem v n (room t) t.points (pair_in t.fields) (TablesHold v n t) (tables_holding v n t) k o e in (f.0, PoolFault.pairs k f.1))
      (λ a. let p = pairs_passed v n (room t) t.points (pair_in t.fields) (TablesHold v n t) (tables_holding v n t) a in
      shuffle_fault_lem 0 n _ P (λ h. (refl, PoolFault.not_a_shuffle p.0 (λ j l. (p.1 j l, λ i k. p.2 j i k l)) h))))
      (λ d. room_fault_lem P (length out) _ (λ l. (refl, PoolFault.buffer_too_short (pool_passed v n t d) (rw (length_sheet_in v n t) at l)))) k o
      (refused_fault _ _ _ _ e)

  writing-left : (k o : ℕ) → (writing v n t out).answer ≡ refused k o → (writing v n t out).lent ≡ out
  unfolding writing
  writing-left k o e = ap (λ (r : Outcome ℕ (List ℕ)). r.lent) (unless_fault _ _ _ _ k o (refused_fault _ _ _ _ e))

  -- of version 1 the points play no part
  writing_unread : v ≡ 1 → (points : List ℕ) → writing v n t out ≡ writing v n (tables points t.fields t.shuffle) out
  unfolding writing pool_fault pairs_fault before_fault pool_in room
  writing_unread e points =
      let f : tables_fault v n (room t) t.points ≡ tables_fault v n (room t) points = tables_first v n (room t) t.points points e in
      let q : points_of v (item_in t.points) ≡ points_of v (item_in points) = first_points_lem v _ e ∙ sym (first_points_lem v _ e) in
      let r : table (point_count v) (item_in t.points) ≡ table (point_count v) (item_in points) =
      table_cong (point_count v) _ _ (λ k l. absurd (omega (arith, l, first_count v e))) in
      rw (f, q, r)

  pub writes_rightly : WritesRightly v n t out (writing v n t out)
  writes_rightly =
      record {
        accepts = λ w l. ap (λ (r : Outcome ℕ (List ℕ)). r.answer) (writing_none w l) ∙ ap finished (length_sheet_in v n t);
        accepted = writing_passed;
        refuses = λ k o e. let f = writing_fault k o e in (f.0, f.1, writing-left k o e);
        unread = writing_unread;
      }
