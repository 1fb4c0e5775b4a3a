-- "Rounds", over any list of subsets `ss` whose weights stand in a table of their own; f is the floor (document 02, W-202). Assumes nothing.
use Rattle.std.specs.Prelude.{ℕ, zero, suc, ◌+◌, ◌/◌, cond, List, [], ◌∷◌, ltb, length, get_or, take, drop}
use Rattle.greedy.specs.Places.{meets}
use Rattle.greedy.specs.Tally.{Tally, raise, next_round}

-- ## Choosing: "the lowest-numbered subset of greatest weight", by halves

-- the winner of a part of the weights, and the tally after it
pub record Winner : Type 0 where
  pub weight : ℕ
  pub number : ℕ
  pub tally : Tally

abbrev pub winner : ℕ → ℕ → Tally → Winner
winner x i t = record { weight = x; number = i; tally = t }

-- "then joins the winners; the left wins a tie": one comparison and five products per join
unfoldable pub join : Winner → Winner → Winner
join a b =
    winner (cond (ltb a.weight b.weight) b.weight a.weight) (cond (ltb a.weight b.weight) b.number a.number)
    (raise 1 5 b.tally)

-- "halves the part of the table under study until one subset is left": the part whose first number is i. It is halved less often than it
-- has weights, and the first argument, from which the recursion goes down, is at least their number
unfoldable pub by_halves : ℕ → ℕ → List ℕ → Tally → Winner
by_halves zero i ws t = winner 0 i t
by_halves (suc k) i [] t = winner 0 i t
by_halves (suc k) i (x ∷ []) t = winner x i t
by_halves (suc k) i (x ∷ y ∷ ws) t =
    let half : ℕ = length (x ∷ y ∷ ws) / 2 in
    let left : Winner = by_halves k i (take half (x ∷ y ∷ ws)) t in
    let right : Winner = by_halves k (i + half) (drop half (x ∷ y ∷ ws)) left.tally in
    join left right

-- a choice, and the tally after it
pub record Chosen : Type 0 where
  pub number : ℕ
  pub tally : Tally

-- "a subset is chosen only if its weight is above the floor"; else "the choice is n, meaning none". "The final test", at every floor: one comparison and
-- four products
unfoldable pub choosing : ℕ → List (List ℕ) → List ℕ → Tally → Chosen
choosing f ss ws t =
    let best : Winner = by_halves (length ws) 0 ws t in
    record { number = cond (ltb f best.weight) best.number (length ss); tally = raise 1 4 best.tally }

-- the choice of a round, which begins with it
abbrev pub chosen_in : ℕ → List (List ℕ) → List ℕ → Tally → Chosen
chosen_in f ss ws t = choosing f ss ws (next_round t)

-- ## Clearing

-- "every subset sharing a place with the choice gets weight 0"
unfoldable pub clear : List ℕ → List (List ℕ) → List ℕ → List ℕ
clear c [] ws = ws
clear c (s ∷ ss) [] = []
clear c (s ∷ ss) (x ∷ ws) = cond (meets s c) 0 x ∷ clear c ss ws

-- "in clearing 2 per two, 3 per triple": a product for each place of each subset
unfoldable pub clearing_tally : List (List ℕ) → Tally → Tally
clearing_tally [] t = t
clearing_tally (s ∷ ss) t = clearing_tally ss (raise 0 (length s) t)

-- "After each round but the last": where r rounds are left
abbrev pub clear_before : ℕ → List ℕ → List (List ℕ) → List ℕ → List ℕ
clear_before zero c ss ws = ws
clear_before (suc r) c ss ws = clear c ss ws

abbrev pub clearing_tally_before : ℕ → List (List ℕ) → Tally → Tally
clearing_tally_before zero ss t = t
clearing_tally_before (suc r) ss t = clearing_tally ss t

-- ## The rounds

-- what rounds leave: the weights, the choices, the tally
pub record Left : Type 0 where
  pub weights : List ℕ
  pub choices : List ℕ
  pub tally : Tally

abbrev pub left : List ℕ → List ℕ → Tally → Left
left ws cs t = record { weights = ws; choices = cs; tally = t }

-- r rounds, "always all of them"; each leaves one fewer
unfoldable pub rounds : ℕ → ℕ → List (List ℕ) → List ℕ → Tally → Left
rounds f zero ss ws t = left ws [] t
rounds f (suc r) ss ws t =
    let c : Chosen = chosen_in f ss ws t in
    let rest : Left = rounds f r ss (clear_before r (get_or ss c.number []) ss ws) (clearing_tally_before r ss c.tally) in
    left rest.weights (c.number ∷ rest.choices) rest.tally
