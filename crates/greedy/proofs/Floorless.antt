-- Rounds with floor 0 are document 01's, which have no floor. Assumes nothing.
use Prim.Native.Nat.{ℕ, zero, suc}
use mathlib.Core.Bool.{cond}
use mathlib.Core.List.{List, [], ◌∷◌}
use mathlib.Core.Path.{◌≡◌, refl, ap, ◌∙◌}
use native.Mathlib.Omega.{arith}
use lib.Dec.{eqb, ltb}
use lib.ListN.{length, get_or}
use borrow.Author.Tests.{lt-ltb, ne_eqb}
use Rattle.greedy.specs.Tally.{Tally, raise, next_round}
use Rattle.greedy.specs.Rounds as Rounds
use Rattle.greedy.specs.Rounds.{Winner, by_halves, Chosen, clear_before, clearing_tally_before, Left, left}
use Rattle.greedy.specs.Floorless.{choosing, rounds, RoundsAtZero}

above_nothing : (x a b : ℕ) → cond (ltb 0 x) a b ≡ cond (eqb x 0) b a
above_nothing zero a b = refl
above_nothing (suc x) a b = rw (lt-ltb 0 (suc x) (omega arith), ne_eqb (suc x) 0 (λ e. omega arith))

choosing_zero : (ss : List (List ℕ)) (ws : List ℕ) (t : Tally) → Rounds.choosing 0 ss ws t ≡ choosing ss ws t
unfolding choosing Rounds.choosing
choosing_zero ss ws t =
    let best : Winner = by_halves (length ws) 0 ws t in
    ap (λ (i : ℕ). record { number = i; tally = raise 1 4 best.tally }) (above_nothing best.weight best.number (length ss))

pub rounds_zero : RoundsAtZero
unfolding rounds Rounds.rounds
rounds_zero zero ss ws t = refl
rounds_zero (suc r) ss ws t =
    ap (λ (c : Chosen). follow c (Rounds.rounds 0 r ss (clear_before r (get_or ss c.number []) ss ws) (clearing_tally_before r ss c.tally)))
    (choosing_zero ss ws (next_round t))
    ∙ ap (follow (choosing ss ws (next_round t))) (rounds_zero r ss _ _)
  where
    -- a choice before what the later rounds leave
    follow : Chosen → Left → Left
    follow c rest = left rest.weights (c.number ∷ rest.choices) rest.tally
