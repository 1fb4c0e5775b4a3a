-- Document 01's 'Rounds' before W-202: they have no floor. Floor 0 gives them, a promise says. Assumes nothing.
use Rattle.std.specs.Prelude.{ℕ, zero, suc, ◌≡◌, cond, List, [], ◌∷◌, eqb, length, get_or}
use Rattle.greedy.specs.Tally.{Tally, raise, next_round}
use Rattle.greedy.specs.Rounds as Rounds
use Rattle.greedy.specs.Rounds.{Winner, by_halves, Chosen, clear_before, clearing_tally_before, Left, left}

-- "the lowest-numbered subset of greatest weight; if that weight is 0 the choice is n, meaning none"; the final test is one comparison and four products
unfoldable pub choosing : List (List ℕ) → List ℕ → Tally → Chosen
choosing ss ws t =
    let best : Winner = by_halves (length ws) 0 ws t in
    record { number = cond (eqb best.weight 0) (length ss) best.number; tally = raise 1 4 best.tally }

-- r rounds, "always all of them"
unfoldable pub rounds : ℕ → List (List ℕ) → List ℕ → Tally → Left
rounds zero ss ws t = left ws [] t
rounds (suc r) ss ws t =
    let c : Chosen = choosing ss ws (next_round t) in
    let rest : Left = rounds r ss (clear_before r (get_or ss c.number []) ss ws) (clearing_tally_before r ss c.tally) in
    left rest.weights (c.number ∷ rest.choices) rest.tally

-- ## The promise

abbrev pub RoundsAtZero : Type 0
RoundsAtZero = (r : ℕ) (ss : List (List ℕ)) (ws : List ℕ) (t : Tally) → Rounds.rounds 0 r ss ws t ≡ rounds r ss ws t
