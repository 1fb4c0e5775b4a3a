-- The weights that rounds leave: as they were, or 0 where a subset shares a place with a choice that was cleared by. Assumes nothing.
use Prim.Native.Nat.{ℕ, zero, suc, ◌-◌, ◌≤◌, ◌<◌}
use mathlib.Core.Bool.{true, false}
use mathlib.Core.List.{List, [], ◌∷◌}
use mathlib.Core.Logic.{inl, inr}
use mathlib.Core.Path.{◌≡◌, refl, ap, ◌∙◌}
use native.Mathlib.Omega.{arith}
use native.Mathlib.Nat.{eq-zero-or-pos}
use lib.ListN.{length, get_or}
use borrow.Author.Tests.{le-leb, lt-leb}
use Rattle.greedy.specs.Places.{meets}
use Rattle.greedy.specs.Tally.{Tally}
use Rattle.greedy.specs.Rounds.{clear, rounds}
use Rattle.greedy.specs.Promises.{choice, picks, cleared, Remains, met, unmet, WeightsRemain}
use Rattle.greedy.proofs.Counts.{shared, shared_join, shared_sym, meets_shared}
use Rattle.greedy.proofs.Bound.{places, clear_miss, cleared_met, rounds-picks, rounds-weights}

-- ---- a subset that meets a choice, and one that meets none

pub met_at : (ss : List (List ℕ)) (t : List ℕ) (cs : List ℕ) → 1 ≤ shared (places ss cs) t
    → (k : ℕ) × (k < length cs) × (meets t (get_or ss (get_or cs k 0) []) ≡ true)
unfolding places shared
met_at ss t [] h = absurd (omega arith)
met_at ss t (c ∷ cs) h = elim (eq-zero-or-pos (shared (get_or ss c []) t)) [
  | inr z ↦ (0, omega arith, meets_shared t (get_or ss c []) ∙ le-leb 1 (shared t (get_or ss c [])) (omega (arith, shared_sym t (get_or ss c []))))
  | inl z ↦
      let r = met_at ss t cs (omega (arith, h, shared_join (get_or ss c []) (places ss cs) t)) in
      (suc r.0, omega (arith, r.1), r.2)
]

unmet_at : (ss : List (List ℕ)) (t : List ℕ) (cs : List ℕ) → shared (places ss cs) t ≡ 0 → (k : ℕ) → k < length cs
    → meets t (get_or ss (get_or cs k 0) []) ≡ false
unfolding places
unmet_at ss t [] h k l = absurd (omega arith)
unmet_at ss t (c ∷ cs) h zero l =
    meets_shared t (get_or ss c [])
    ∙ lt-leb 1 (shared t (get_or ss c [])) (omega (arith, shared_sym t (get_or ss c []), h, shared_join (get_or ss c []) (places ss cs) t))
unmet_at ss t (c ∷ cs) h (suc k) l = unmet_at ss t cs (omega (arith, h, shared_join (get_or ss c []) (places ss cs) t)) k (omega arith)

-- ---- after r rounds, each followed by clearing

module _ (f : ℕ) (ss : List (List ℕ)) where
  cleared_unmet : (r : ℕ) (ws : List ℕ) (i : ℕ) → shared (places ss (picks f r ss ws)) (get_or ss i []) ≡ 0 → get_or (cleared f r ss ws) i 0 ≡ get_or ws i 0
  unfolding cleared picks places
  cleared_unmet zero ws i h = refl
  cleared_unmet (suc r) ws i h =
      let d : List ℕ = get_or ss (choice f ss ws) [] in
      let h' = rw shared_join at h in
      cleared_unmet r (clear d ss ws) i (omega arith) ∙ clear_miss d ss ws i (omega arith)

  picks-length : (r : ℕ) (ws : List ℕ) → length (picks f r ss ws) ≡ r
  unfolding picks
  picks-length zero ws = refl
  picks-length (suc r) ws = ap suc (picks-length r (clear (get_or ss (choice f ss ws) []) ss ws))

  -- a round more begins with the same choices
  picks_first : (r : ℕ) (ws : List ℕ) (k : ℕ) → k < r → get_or (picks f (suc r) ss ws) k 0 ≡ get_or (picks f r ss ws) k 0
  unfolding picks
  picks_first zero ws k l = absurd (omega arith)
  picks_first (suc r) ws zero l = refl
  picks_first (suc r) ws (suc k) l = picks_first r (clear (get_or ss (choice f ss ws) []) ss ws) k (omega arith)

-- ---- the rounds

-- with choices that are alike
pub remains_alike : (ss : List (List ℕ)) (cs ds : List ℕ) (r i x y : ℕ) → ((k : ℕ) → k < r → get_or cs k 0 ≡ get_or ds k 0) → Remains ss cs r i x y → Remains ss ds r i x y
remains_alike ss cs ds r i x y e (met k l h) = met k l (rw (e k l) at h)
remains_alike ss cs ds r i x y e (unmet h) = unmet (λ k l. rw (e k l) at (h k l))

module _ (f : ℕ) (ss : List (List ℕ)) (ws : List ℕ) (t : Tally) (i : ℕ) where
  after : (r : ℕ) → Remains ss (picks f (suc r) ss ws) r i (get_or ws i 0) (get_or (cleared f r ss ws) i 0)
  after r = elim (eq-zero-or-pos (shared (places ss (picks f r ss ws)) (get_or ss i []))) [
    | inr h ↦
        let found = met_at ss (get_or ss i []) (picks f r ss ws) h in
        let within : found.0 < r = omega (arith, found.1, picks-length f ss r ws) in
        rw (cleared_met f ss r ws i h) (met found.0 within (rw (picks_first f ss r ws found.0 within) found.2))
    | inl h ↦
        rw (cleared_unmet f ss r ws i h)
        (unmet (λ k l. rw (picks_first f ss r ws k l) (unmet_at ss (get_or ss i []) (picks f r ss ws) h k (omega (arith, picks-length f ss r ws)))))
  ]

  remain : (r : ℕ) → Remains ss (rounds f r ss ws t).choices (r - 1) i (get_or ws i 0) (get_or (rounds f r ss ws t).weights i 0)
  unfolding rounds
  remain zero = unmet (λ k l. absurd (omega arith))
  remain (suc r) =
      let z : suc r - 1 ≡ r = omega arith in
      rw (z, rounds-picks f (suc r) ss ws t, rounds-weights f r ss ws t) (after r)

pub weights_remain : WeightsRemain
weights_remain f r ss ws t i = remain f ss ws t i r
