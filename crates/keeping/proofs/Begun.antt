-- What starting answers and leaves. Assumes nothing.
use mathlib.Core.Path.{◌≡◌, sym, ap, ◌∙◌}
use mathlib.Core.List.{List}
use Prim.Native.Nat.{ℕ, ◌≤◌, ◌<◌}
use borrow.Author.Tests.{lt-ltb}
use lib.ListN.{length}
use Rattle.laws.specs.Lent.{filled}
use Rattle.refusal.specs.Answer.{outcome}
use Rattle.refusal.specs.Number.{number_of, fault_at}
use Rattle.refusal.specs.declared.Refusal.{Refusal}
use Rattle.refusal.specs.declared.Refusal.TheVariants.{TooShort}
use Rattle.std.specs.Prelude.{Result, Ok, Err}
use Rattle.refusal.proofs.Faults.{none_then, fault_then, fault_refuse, sound_none, faulty_fault, unless_none, unless_fault}
use Rattle.pool.specs.Points.{Points, registry_points}
use Rattle.pool.specs.Faults.{points_fault, room_fault}
use Rattle.pool.proofs.Reading.{room_none}
use Rattle.live.specs.Faults.{start_fault}
use Rattle.live.specs.Calls.{Beginning, beginning, in_order, starting}
use Rattle.live.specs.Answers.{answer_of}

-- ## The call, by what was found of the six

module _ (q : Points) (b : Beginning) (found : Result Unit Refusal) (e : fault_at 0 found ≡ points_fault 0 q) where
  pub start_refused : (why : Refusal) → found ≡ Err why → outcome (answer_of (Err why)) b ≡ starting q b
  unfolding starting start_fault answer_of
  start_refused why g = sym (unless_fault _ tt (beginning 0 (filled (in_order q) b.points)) b (number_of why) 0 (fault_then _ _ (faulty_fault 0 found e why g)))

  module _ (g : found ≡ (Ok tt)) where
    pub start_short : length b.points < 6 → outcome (answer_of (Err TooShort)) b ≡ starting q b
    unfolding starting start_fault answer_of room_fault
    start_short l =
        sym
        (unless_fault _ tt (beginning 0 (filled (in_order q) b.points)) b 9 0
        (none_then _ _ (sound_none 0 found e g) ∙ fault_refuse 9 0 _ (lt-ltb (length b.points) 6 l)))

    pub start_done : registry_points ≤ length b.points → (points : List ℕ) → points ≡ filled (in_order q) b.points
        → outcome (answer_of (Ok tt)) (beginning 0 points) ≡ starting q b
    unfolding starting start_fault answer_of
    start_done l points h =
        ap (λ (t : List ℕ). outcome (answer_of (Ok tt)) (beginning 0 t)) h
        ∙ sym
        (unless_none _ tt (beginning 0 (filled (in_order q) b.points)) b
        (none_then _ _ (sound_none 0 found e g) ∙ room_none (length b.points) registry_points l))
