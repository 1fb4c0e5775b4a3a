-- What writing answers and leaves, by what was found of the pool and by the buffer's length. Assumes nothing.
use mathlib.Core.Path.{◌≡◌, sym, ap₂, subst, ◌∙◌}
use mathlib.Core.List.{List}
use Prim.Native.Nat.{ℕ, ◌≤◌, ◌<◌}
use native.Mathlib.Omega.{arith}
use borrow.Author.Tests.{lt-ltb}
use lib.ListN.{length}
use Rattle.laws.specs.Lent.{filled}
use Rattle.refusal.specs.Answer.{Outcome, outcome, finished}
use Rattle.refusal.specs.Number.{number_of, fault_at}
use Rattle.refusal.specs.declared.Refusal.{Refusal}
use Rattle.refusal.specs.declared.Refusal.TheVariants.{TooShort}
use Rattle.std.specs.Prelude.{Result, Ok, Err}
use Rattle.refusal.proofs.Faults.{sound_none, faulty_fault, none_then, fault_then, fault_refuse, unless_fault}
use Rattle.pool.specs.Sheet.{sheet_length, sheet_of}
use Rattle.pool.specs.Tables.{Tables, pool_in}
use Rattle.pool.specs.Faults.{room_fault, pool_fault}
use Rattle.pool.specs.Calls.{writing}
use Rattle.pool.specs.Faultless.{FaultlessPool}
use Rattle.pool.specs.Promises.{WritesRightly}
use Rattle.pool.proofs.Lengths.{length_sheet_in}
use Rattle.pool.proofs.Writing.{pool_passed}
use Rattle.pool.proofs.WritingCall.{writing_none, writes_rightly}
use Rattle.writer.specs.Answers.{answer_of}

module _ (v n : ℕ) (t : Tables) (out : List ℕ) (found : Result Unit Refusal) (e : fault_at 0 found ≡ pool_fault v n t) where
  pub answered_fault : (why : Refusal) → found ≡ Err why → outcome (answer_of (Err why)) out ≡ writing v n t out
  unfolding answer_of writing
  answered_fault why f = sym (unless_fault _ _ _ _ (number_of why) 0 (fault_then _ _ (faulty_fault 0 found e why f)))

  module _ (f : found ≡ (Ok tt)) where
    pub answered_faultless : FaultlessPool v n t
    answered_faultless = pool_passed v n t (sound_none 0 found e f)

    module _ (long : ℕ) (g : long ≡ sheet_length v n) where
      pub answered_short : length out < long → outcome (answer_of (Err TooShort)) out ≡ writing v n t out
      unfolding answer_of writing room_fault
      answered_short l =
          sym
          (unless_fault _ _ _ _ 9 0
          (none_then _ _ (sound_none 0 found e f) ∙ fault_refuse 9 0 _ (lt-ltb (length out) _ (rw (length_sheet_in v n t) (omega arith)))))

      pub answered_written : (new : List ℕ) → long ≤ length out → new ≡ filled (sheet_of (pool_in v n t)) out → outcome (answer_of (Ok long)) new ≡ writing v n t out
      unfolding answer_of
      answered_written new l h =
          ap₂ (λ (k : ℕ) (b : List ℕ). outcome (finished k) b) (g ∙ sym (length_sheet_in v n t)) h
          ∙ sym (writing_none v n t out answered_faultless (omega arith))

-- what is answered as the definition says keeps the promise
pub answered_rightly : (v n : ℕ) (t : Tables) (out new : List ℕ) (r : Result ℕ Refusal) → outcome (answer_of r) new ≡ writing v n t out
    → WritesRightly v n t out (outcome (answer_of r) new)
answered_rightly v n t out new r e = subst (λ (o : Outcome ℕ (List ℕ)). WritesRightly v n t out o) (sym e) (writes_rightly v n t out)
