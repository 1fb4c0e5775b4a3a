-- What joining answers and leaves, by what was found of the two sheets. Assumes nothing.
use Rattle.std.specs.Prelude.{Result, Ok, Err}
use mathlib.Core.Path.{◌≡◌, sym, ap₂, subst, ◌∙◌}
use mathlib.Core.List.{List}
use Prim.Native.Nat.{ℕ}
use lib.ListN.{length}
use Rattle.laws.specs.Lent.{filled}
use Rattle.refusal.specs.Fault.{none, fault}
use Rattle.refusal.specs.Answer.{Outcome, outcome, finished}
use Rattle.refusal.specs.Number.{number_of}
use Rattle.refusal.specs.declared.Refused.{Refused}
use Rattle.refusal.proofs.Faults.{unless_none, unless_fault}
use Rattle.pool.specs.Joining.{joined_sheet, join_fault, joining}
use Rattle.pool.specs.Joinable.{JoinsRightly}
use Rattle.pool.specs.Promises.{EntriesBelow}
use Rattle.pool.proofs.Joining.{joins_rightly}
use Rattle.joining.specs.Answers.{answer_of}

module _ (a b out : List ℕ) where
  pub answered_fault : (r : Refused) → join_fault a b (length out) ≡ fault (number_of r.why) r.place → outcome (answer_of (Err r)) out ≡ joining a b out
  unfolding answer_of joining
  answered_fault r e = sym (unless_fault _ _ _ _ (number_of r.why) r.place e)

  pub answered_joined : join_fault a b (length out) ≡ none → (long : ℕ) (new : List ℕ) → long ≡ length (joined_sheet a b) → new ≡ filled (joined_sheet a b) out
      → outcome (answer_of (Ok long)) new ≡ joining a b out
  unfolding answer_of joining
  answered_joined e long new f g = ap₂ (λ (k : ℕ) (l : List ℕ). outcome (finished k) l) f g ∙ sym (unless_none _ _ _ _ e)

  -- what is answered as the definition says keeps the promise
  pub answered_rightly : EntriesBelow 256 a → EntriesBelow 256 b → (new : List ℕ) (r : Result ℕ Refused) → outcome (answer_of r) new ≡ joining a b out
      → JoinsRightly a b out (outcome (answer_of r) new)
  answered_rightly ha hb new r e = subst (λ (o : Outcome ℕ (List ℕ)). JoinsRightly a b out o) (sym e) (joins_rightly a b out ha hb)
