-- The tally of rounds. Assumes nothing.
use Prim.Native.Nat.{ℕ, zero, suc, ◌+◌, ◌-◌, ◌*◌, ◌<◌}
use mathlib.Core.List.{List, [], ◌∷◌, ◌++◌}
use mathlib.Core.Path.{◌≡◌, refl, ap, ◌∙◌}
use native.Mathlib.Omega.{arith}
use lib.ListN.{length, get_or}
use Rattle.greedy.specs.Tally.{Tally, tally, raise, next_round}
use Rattle.greedy.specs.Rounds.{Chosen, choosing, clear, clearing_tally, rounds}
use Rattle.greedy.proofs.Choosing.{same_tally, choosing-tally}

-- the number of places of all subsets
unfoldable pub sizes : List (List ℕ) → ℕ
sizes [] = 0
sizes (s ∷ ss) = length s + sizes ss

pub clearing_is : (ss : List (List ℕ)) (t : Tally) → clearing_tally ss t ≡ raise 0 (sizes ss) t
unfolding clearing_tally sizes raise
clearing_is [] t = same_tally _ _ (omega arith) (omega arith) refl
clearing_is (s ∷ ss) t = clearing_is ss (raise 0 (length s) t) ∙ same_tally _ _ (omega arith) (omega arith) refl

pub clearing_append : (ss us : List (List ℕ)) (t : Tally) → clearing_tally (ss ++ us) t ≡ clearing_tally us (clearing_tally ss t)
unfolding clearing_tally
clearing_append [] us t = refl
clearing_append (s ∷ ss) us t = clearing_append ss us (raise 0 (length s) t)

pub clear-length : (c : List ℕ) (ss : List (List ℕ)) (ws : List ℕ) → length (clear c ss ws) ≡ length ws
unfolding clear
clear-length c [] ws = refl
clear-length c (s ∷ ss) [] = refl
clear-length c (s ∷ ss) (x ∷ ws) = ap suc (clear-length c ss ws)

pub rounds-length : (f r : ℕ) (ss : List (List ℕ)) (ws : List ℕ) (t : Tally)
    → (length (rounds f r ss ws t).weights ≡ length ws) × (length (rounds f r ss ws t).choices ≡ r)
unfolding rounds
rounds-length f zero ss ws t = (refl, refl)
rounds-length f (suc zero) ss ws t = (refl, refl)
rounds-length f (suc (suc r)) ss ws t =
    let c : Chosen = choosing f ss ws (next_round t) in
    let h = rounds-length f (suc r) ss (clear (get_or ss c.number []) ss ws) (clearing_tally ss c.tally) in
    (h.0 ∙ clear-length (get_or ss c.number []) ss ws, ap suc h.1)

-- what r rounds over n weights add
unfoldable pub after : ℕ → ℕ → ℕ → Tally → Tally
after r n k t = tally (t.comparisons + r * n) (t.products + r * (5 * n - 1) + (r - 1) * k) (t.rounds + r)

after_step : (r n k : ℕ) (t : Tally) → after (suc r) n k (raise 0 k (raise n (5 * n - 1) (next_round t))) ≡ after (suc (suc r)) n k t
unfolding after raise next_round
after_step r n k t = same_tally _ _ (omega arith) (products t.products (5 * n - 1)) (omega arith)
  where
    products : (p q : ℕ) → p + q + k + suc r * q + (suc r - 1) * k ≡ p + suc (suc r) * q + (suc (suc r) - 1) * k
    products p q =
        let a : suc r - 1 ≡ r = omega arith in
        let b : suc (suc r) - 1 ≡ suc r = omega arith in
        rw (a, b) (omega arith)

after_one : (n k : ℕ) (t : Tally) → raise n (5 * n - 1) (next_round t) ≡ after 1 n k t
unfolding after raise next_round
after_one n k t = same_tally _ _ (omega arith) (omega arith) (omega arith)

after_none : (n k : ℕ) (t : Tally) → t ≡ after 0 n k t
unfolding after
after_none n k t = same_tally _ _ (omega arith) (omega arith) (omega arith)

pub rounds-tally : (f r : ℕ) (ss : List (List ℕ)) (ws : List ℕ) (t : Tally) → 0 < length ws
    → (rounds f r ss ws t).tally ≡ after r (length ws) (sizes ss) t
unfolding rounds
rounds-tally f zero ss ws t h = after_none (length ws) (sizes ss) t
rounds-tally f (suc zero) ss ws t h = choosing-tally f ss ws (next_round t) h ∙ after_one (length ws) (sizes ss) t
rounds-tally f (suc (suc r)) ss ws t h =
    let c : Chosen = choosing f ss ws (next_round t) in
    let e : length (clear (get_or ss c.number []) ss ws) ≡ length ws = clear-length (get_or ss c.number []) ss ws in
    rounds-tally f (suc r) ss (clear (get_or ss c.number []) ss ws) (clearing_tally ss c.tally) (omega arith)
    ∙ (rw (e, clearing_is ss c.tally, choosing-tally f ss ws (next_round t) h) (after_step r (length ws) (sizes ss) t))
