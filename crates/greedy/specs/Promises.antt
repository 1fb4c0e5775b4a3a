-- What is promised of sharing a place and of a round's choice, as statements: the proofs are in `proofs/`. Assumes nothing.
use Rattle.std.specs.Prelude.{ℕ, zero, suc, ◌-◌, ◌≤◌, ◌<◌, max, ◌≡◌, true, false, cond, ◌↔◌, eqb, ltb, length, get_or}
use mathlib.Core.List.{List, [], ◌∷◌, Memᴰ}
use Rattle.greedy.specs.Places.{meets}
use Rattle.greedy.specs.Tally.{Tally}
use Rattle.greedy.specs.Rounds.{choosing, clear, rounds}

-- ## Sharing a place: some place stands in both

abbrev pub MeetsIsSharing : Type 0
MeetsIsSharing = (s t : List ℕ) → (meets s t ≡ true) ↔ ((p : ℕ) × Memᴰ p s × Memᴰ p t)

-- ## The choice

unfoldable pub greatest : List ℕ → ℕ
greatest [] = 0
greatest (x ∷ ws) = max x (greatest ws)

-- where a number first stands
unfoldable pub first_at : ℕ → List ℕ → ℕ
first_at p [] = 0
first_at p (q ∷ s) = cond (eqb p q) 0 (suc (first_at p s))

-- "the lowest-numbered subset of greatest weight", "only if its weight is above the floor"; else "the choice is n, meaning none"
unfoldable pub choice : ℕ → List (List ℕ) → List ℕ → ℕ
choice f ss ws = cond (ltb f (greatest ws)) (first_at (greatest ws) ws) (length ss)

-- c is n and no weight is above the floor; or c's weight is above the floor, none is greater, and every one before it is less
pub data Lowest (f n : ℕ) (ws : List ℕ) (c : ℕ) : Type 0 where
  none : c ≡ n → ((i : ℕ) → get_or ws i 0 ≤ f) → Lowest f n ws c
  some : f < get_or ws c 0 → ((i : ℕ) → get_or ws i 0 ≤ get_or ws c 0) → ((i : ℕ) → i < c → get_or ws i 0 < get_or ws c 0) → Lowest f n ws c

abbrev pub ChoiceIsLowest : Type 0
ChoiceIsLowest = (f : ℕ) (ss : List (List ℕ)) (ws : List ℕ) → Lowest f (length ss) ws (choice f ss ws)

-- choosing by halves gives that choice
abbrev pub HalvesGiveTheChoice : Type 0
HalvesGiveTheChoice = (f : ℕ) (ss : List (List ℕ)) (ws : List ℕ) (t : Tally) → (choosing f ss ws t).number ≡ choice f ss ws

-- ## Rounds, said a second time, by the choice and with no tally

-- the choices of r rounds, each followed by clearing
unfoldable pub picks : ℕ → ℕ → List (List ℕ) → List ℕ → List ℕ
picks f zero ss ws = []
picks f (suc r) ss ws = choice f ss ws ∷ picks f r ss (clear (get_or ss (choice f ss ws) []) ss ws)

-- the weights when r rounds, each followed by clearing, are over
unfoldable pub cleared : ℕ → ℕ → List (List ℕ) → List ℕ → List ℕ
cleared f zero ss ws = ws
cleared f (suc r) ss ws = cleared f r ss (clear (get_or ss (choice f ss ws) []) ss ws)

abbrev pub RoundsChoose : Type 0
RoundsChoose = (f r : ℕ) (ss : List (List ℕ)) (ws : List ℕ) (t : Tally) → (rounds f r ss ws t).choices ≡ picks f r ss ws

-- "after each round but the last"
abbrev pub WeightsLeft : Type 0
WeightsLeft = (f r : ℕ) (ss : List (List ℕ)) (ws : List ℕ) (t : Tally) → (rounds f (suc r) ss ws t).weights ≡ cleared f r ss ws

-- ## The weights that are left, said a second time, subset by subset

-- what is left of the weight x of subset i after choices cs, of which the first r were cleared by: 0 where it shares a place with one of these, and else x,
-- whether it is above the floor or not
pub data Remains (ss : List (List ℕ)) (cs : List ℕ) (r i x : ℕ) : ℕ → Type 0 where
  met : (k : ℕ) → k < r → meets (get_or ss i []) (get_or ss (get_or cs k 0) []) ≡ true → Remains ss cs r i x 0
  unmet : ((k : ℕ) → k < r → meets (get_or ss i []) (get_or ss (get_or cs k 0) []) ≡ false) → Remains ss cs r i x x

abbrev pub WeightsRemain : Type 0
WeightsRemain =
    (f r : ℕ) (ss : List (List ℕ)) (ws : List ℕ) (t : Tally) (i : ℕ)
    → Remains ss (rounds f r ss ws t).choices (r - 1) i (get_or ws i 0) (get_or (rounds f r ss ws t).weights i 0)
