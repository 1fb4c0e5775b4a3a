-- Rounds tried on three subsets of four places. Assumes nothing.
use mathlib.Core.List.{List, [], ◌∷◌}
use mathlib.Core.Path.{◌≡◌, refl}
use Prim.Native.Nat.{ℕ}
use Rattle.laws.specs.Below.{either}
use Rattle.greedy.specs.Places.{among, meets}
use Rattle.greedy.specs.Tally.{tally, raise, next_round}
use Rattle.greedy.specs.Rounds.{join, by_halves, choosing, clear, clearing_tally, left, rounds}

three : List (List ℕ)
three = (0 ∷ 1 ∷ []) ∷ (2 ∷ 3 ∷ []) ∷ (0 ∷ 2 ∷ []) ∷ []

-- the lower of two equal weights; then what does not meet it, which is not cleared
two_rounds : rounds 0 2 three (3 ∷ 5 ∷ 5 ∷ []) (tally 0 0 0) ≡ left (3 ∷ 0 ∷ 0 ∷ []) (1 ∷ 0 ∷ []) (tally 6 34 2)
unfolding three either among meets raise next_round join by_halves choosing clear clearing_tally rounds
two_rounds = refl

-- with floor 3 what is left is too light: it is not chosen, and not cleared
above_three : rounds 3 3 three (3 ∷ 5 ∷ 5 ∷ []) (tally 0 0 0) ≡ left (3 ∷ 0 ∷ 0 ∷ []) (1 ∷ 3 ∷ 3 ∷ []) (tally 9 54 3)
unfolding three either among meets raise next_round join by_halves choosing clear clearing_tally rounds
above_three = refl

-- a round that chooses none counts as much
three_rounds : rounds 0 3 three (3 ∷ 5 ∷ 5 ∷ []) (tally 0 0 0) ≡ left (0 ∷ 0 ∷ 0 ∷ []) (1 ∷ 0 ∷ 3 ∷ []) (tally 9 54 3)
unfolding three either among meets raise next_round join by_halves choosing clear clearing_tally rounds
three_rounds = refl
