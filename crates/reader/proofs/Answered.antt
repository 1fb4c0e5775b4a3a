-- What reading answers and leaves, by what was found. Assumes nothing.
use Rattle.std.specs.Prelude.{Result, Ok, Err}
use mathlib.Core.Path.{◌≡◌, sym, ap, subst, ◌∙◌}
use mathlib.Core.List.{List}
use Prim.Native.Nat.{ℕ}
use native.Mathlib.Omega.{arith}
use Rattle.refusal.specs.Fault.{none, fault}
use Rattle.refusal.specs.Answer.{finished, refused, Outcome, outcome}
use Rattle.refusal.proofs.Faults.{none_then, fault_then, unless_none, unless_fault, finished_none, refused_fault}
use Rattle.pool.specs.Sheet.{version_in, pairs_in, pool_of}
use Rattle.pool.specs.Tables.{Tables, room, filled_tables}
use Rattle.pool.specs.Faults.{sheet_fault, tables_fault}
use Rattle.pool.specs.Calls.{Head, head, head_in, reading}
use Rattle.pool.specs.Promises.{ReadsRightly}
use Rattle.pool.proofs.Rooms.{hold_room}
use Rattle.pool.proofs.ReadingCall.{reading_passed, reads_rightly}
use Rattle.refusal.specs.declared.Refused.{Refused}
use Rattle.reader.specs.declared.Head.{Head as Found}
use Rattle.reader.specs.Answers.{answer_of}
use Rattle.reader.specs.Preconditions.{Fillable}

-- ## The answer: the sheet's first fault, else 9, else the version and N

module _ (b : List ℕ) (t : Tables) where
  answer_of_lem : {o : Outcome Head Tables} → reading b t ≡ o → o.answer ≡ (reading b t).answer
  answer_of_lem e = sym (ap (λ (o : Outcome Head Tables). o.answer) e)

  pub answers_fault : {k o : ℕ} → sheet_fault b ≡ fault k o → refused k o ≡ (reading b t).answer
  unfolding reading
  answers_fault e = answer_of_lem (unless_fault _ _ _ _ _ _ (fault_then _ _ e))

  module _ (e : sheet_fault b ≡ none) where
    pub answers_short : {k o : ℕ} → tables_fault (version_in b) (pairs_in b) (room t) t.points ≡ fault k o → refused k o ≡ (reading b t).answer
    unfolding reading
    answers_short f = answer_of_lem (unless_fault _ _ _ _ _ _ (none_then _ _ e ∙ f))

    pub answers_pairs : tables_fault (version_in b) (pairs_in b) (room t) t.points ≡ none → finished (head_in b) ≡ (reading b t).answer
    unfolding reading
    answers_pairs f = answer_of_lem (unless_none _ _ _ _ (none_then _ _ e ∙ f))

-- 9, by the values that the code has
pub same_tables : {v w n m s r : ℕ} → v ≡ w → n ≡ m → s ≡ r → (points : List ℕ) → tables_fault v n s points ≡ tables_fault w m r points
same_tables e f g points = rw (e, f, g)

-- ## The outcome, where the answer is known

module _ (b : List ℕ) (t : Tables) (r : Result Found Refused) (a : answer_of r ≡ (reading b t).answer) where
  pub refused_leaves : (e : Refused) → r ≡ Err e → outcome (answer_of (Err e)) t ≡ reading b t
  unfolding answer_of reading
  refused_leaves o e = sym (unless_fault _ _ _ _ _ _ (refused_fault _ _ _ _ (sym a ∙ ap answer_of e)))

  pub finished_leaves : (h : Found) → r ≡ Ok h → outcome (answer_of (Ok h)) (filled_tables (pool_of b) t) ≡ reading b t
  unfolding answer_of reading
  finished_leaves _ e =
      let f = finished_none _ _ _ _ (sym a ∙ ap answer_of e) in
      sym (unless_none _ _ _ _ f.0 ∙ ap (λ (h : Head). outcome (finished h) (filled_tables (pool_of b) t)) f.1)

  pub fillable : (h : Found) → r ≡ Ok h → Fillable b h.version h.pairs t
  unfolding answer_of
  fillable f e =
      let p = reading_passed b t (head f.version f.pairs) (sym a ∙ ap answer_of e) in
      let version : f.version ≡ version_in b = ap (λ (h : Head). h.version) p.0 in
      let many : f.pairs ≡ pairs_in b = ap (λ (h : Head). h.pairs) p.0 in
      let held = hold_room (version_in b) (pairs_in b) t p.2 in
      record {
        version = version;
        many = many;
        few = rw many p.1.head.few;
        whole = rw (version, many) (omega (arith, p.1.nothing_after));
        held = rw many held.0;
        held_points = rw version held.1;
      }

-- an answer and tables that are reading's keep its promise
pub rightly : (b : List ℕ) (t : Tables) {o : Outcome Head Tables} → o ≡ reading b t → ReadsRightly b t o
rightly b t e = subst (λ (o : Outcome Head Tables). ReadsRightly b t o) (sym e) (reads_rightly b t)

-- the two at once, where the tables left are those filled
pub finished_rightly : (b : List ℕ) (t : Tables) (r : Result Found Refused)
    → answer_of r ≡ (reading b t).answer → (h : Found) → r ≡ Ok h → (left : Tables)
    → left ≡ filled_tables (pool_of b) t
    → (outcome (answer_of (Ok h)) left ≡ reading b t) × ReadsRightly b t (outcome (answer_of (Ok h)) left)
finished_rightly b t r a h e left f =
    let w = ap (outcome (answer_of (Ok h))) f ∙ finished_leaves b t r a h e in
    (w, rightly b t w)
