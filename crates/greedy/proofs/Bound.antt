-- The greedy bound: the chosen subsets share no place, and their weights, each times its number of places, add up to at least the weight
-- of any rival set. Assumes nothing.
use Prim.Native.Nat.{ℕ, zero, suc, ◌+◌, ◌*◌, ◌≤◌, ◌<◌}
use mathlib.Core.Bool.{Bool, true, false, cond}
use mathlib.Core.List.{List, [], ◌∷◌, ◌++◌}
use mathlib.Core.Logic.{◌⊎◌, inl, inr}
use mathlib.Core.Path.{◌≡◌, refl, sym, ap}
use native.Mathlib.Omega.{arith}
use native.Mathlib.Nat.{mul-le-mul_left, mul-le-mul_right, eq-zero-or-pos, le_of_eq}
use native.Mathlib.Decide.{dec_le}
use lib.Dec.{ltb}
use lib.ListN.{length, get_or, length-append, get_or-eq_default}
use borrow.Author.Tests.{ltb-true, ltb-false, le-ltb, le-leb, lt-leb}
use Rattle.greedy.proofs.Counts.{times, shared, NoneTwice, AllBelow, Same, same, other, same?, times_append, shared_nil, shared_append, shared_join, shared_once, shared_both, shared_alike, shared_sym, meets_shared, Alike, pigeon}
use Rattle.greedy.specs.Places.{meets}
use Rattle.greedy.specs.Tally.{Tally, next_round}
use Rattle.greedy.specs.Rounds.{choosing, clear, clearing_tally, rounds}
use Rattle.greedy.specs.Promises.{first_at, greatest, choice, Lowest, none, some, ChoiceIsLowest, picks, cleared, RoundsChoose, WeightsLeft}
use Rattle.greedy.proofs.Choosing.{First, greatest_first, choosing_number}

-- ---- what a choice is

pub choice_is : ChoiceIsLowest
unfolding choice greatest
choice_is f ss [] = rw (le-ltb f 0 (omega arith)) (none refl (λ i. omega arith))
choice_is f ss (x ∷ ws) = go (ltb f (greatest (x ∷ ws))) refl (greatest_first (x ∷ ws) (omega arith))
  where
    go : (b : Bool) → ltb f (greatest (x ∷ ws)) ≡ b → First (x ∷ ws) (greatest (x ∷ ws)) (first_at (greatest (x ∷ ws)) (x ∷ ws))
        → Lowest f (length ss) (x ∷ ws) (cond b (first_at (greatest (x ∷ ws)) (x ∷ ws)) (length ss))
    go true e h = some (omega (arith, ltb-true f (greatest (x ∷ ws)) e, h.there)) (λ i. omega (arith, h.there, h.most i)) (λ i k. omega (arith, h.there, h.first i k))
    go false e h = none refl (λ i. omega (arith, ltb-false f (greatest (x ∷ ws)) e, h.most i))

-- ---- what clearing does

module _ (c : List ℕ) where
  pub clear_miss : (ss : List (List ℕ)) (ws : List ℕ) (i : ℕ) → shared c (get_or ss i []) ≡ 0 → get_or (clear c ss ws) i 0 ≡ get_or ws i 0
  unfolding clear
  clear_miss [] ws i h = refl
  clear_miss (s ∷ ss) [] i h = refl
  clear_miss (s ∷ ss) (x ∷ ws) zero h = rw (meets_shared s c, shared_sym s c, lt-leb 1 (shared c s) (omega arith))
  clear_miss (s ∷ ss) (x ∷ ws) (suc i) h = clear_miss ss ws i h

  pub clear_hit : (ss : List (List ℕ)) (ws : List ℕ) (i : ℕ) → 1 ≤ shared c (get_or ss i []) → get_or (clear c ss ws) i 0 ≡ 0
  unfolding clear
  clear_hit [] ws i h = omega (arith, shared_nil c)
  clear_hit (s ∷ ss) [] i h = refl
  clear_hit (s ∷ ss) (x ∷ ws) zero h = rw (meets_shared s c, shared_sym s c, le-leb 1 (shared c s) h)
  clear_hit (s ∷ ss) (x ∷ ws) (suc i) h = clear_hit ss ws i h

  pub clear_le : (ss : List (List ℕ)) (ws : List ℕ) (i : ℕ) → get_or (clear c ss ws) i 0 ≤ get_or ws i 0
  unfolding clear
  clear_le [] ws i = omega arith
  clear_le (s ∷ ss) [] i = omega arith
  clear_le (s ∷ ss) (x ∷ ws) zero = go (meets s c)
    where
      go : (b : Bool) → cond b 0 x ≤ x
      go true = omega arith
      go false = omega arith
  clear_le (s ∷ ss) (x ∷ ws) (suc i) = clear_le ss ws i

-- ---- what the chosen subsets are worth

-- the places of the subsets numbered in a list, joined; the number n of none has no places
unfoldable pub places : List (List ℕ) → List ℕ → List ℕ
places ss [] = []
places ss (c ∷ cs) = get_or ss c [] ++ places ss cs

-- the sum of the weights of the subsets numbered in a list; none weighs 0
unfoldable pub value : List ℕ → List ℕ → ℕ
value ws [] = 0
value ws (c ∷ cs) = get_or ws c 0 + value ws cs

-- the same, each weight times the number of the subset's places
unfoldable pub credit : List (List ℕ) → List ℕ → List ℕ → ℕ
credit ss ws [] = 0
credit ss ws (c ∷ cs) = get_or ws c 0 * length (get_or ss c []) + credit ss ws cs

-- ---- the choices by themselves, and the charge that the chosen subsets bear for the places of a list

pub rounds-picks : RoundsChoose
unfolding rounds picks
rounds-picks f zero ss ws t = refl
rounds-picks f (suc zero) ss ws t = ap (λ (c : ℕ). c ∷ []) (choosing_number f ss ws (next_round t))
rounds-picks f (suc (suc r)) ss ws t = rw (choosing_number f ss ws (next_round t))
    (ap (λ (l : List ℕ). choice f ss ws ∷ l) (rounds-picks f (suc r) ss (clear (get_or ss (choice f ss ws) []) ss ws) (clearing_tally ss (choosing f ss ws (next_round t)).tally)))

-- "after each round but the last"
pub rounds-weights : WeightsLeft
unfolding rounds cleared
rounds-weights f zero ss ws t = refl
rounds-weights f (suc r) ss ws t = rw (choosing_number f ss ws (next_round t))
    (rounds-weights f r ss (clear (get_or ss (choice f ss ws) []) ss ws) (clearing_tally ss (choosing f ss ws (next_round t)).tally))

-- each chosen subset bears its weight for every place of its own that stands in l
unfoldable pub charge : List (List ℕ) → List ℕ → List ℕ → List ℕ → ℕ
charge ss ws [] l = 0
charge ss ws (c ∷ cs) l = get_or ws c 0 * shared (get_or ss c []) l + charge ss ws cs l

module _ (ss : List (List ℕ)) where
  pub charge_append : (ws cs s t : List ℕ) → charge ss ws cs (s ++ t) ≡ charge ss ws cs s + charge ss ws cs t
  unfolding charge
  charge_append ws [] s t = refl
  charge_append ws (c ∷ cs) s t = rw (shared_append (get_or ss c []) s t) (omega (arith, charge_append ws cs s t))

  pub charge_once : (ws cs l : List ℕ) → NoneTwice l → charge ss ws cs l ≤ credit ss ws cs
  unfolding charge credit
  charge_once ws [] l h = omega arith
  charge_once ws (c ∷ cs) l h = omega (arith, charge_once ws cs l h, mul-le-mul_left (get_or ws c 0) (shared_once (get_or ss c []) l h))

  pub charge_alike : (ws cs s t : List ℕ) → Alike s t → charge ss ws cs s ≡ charge ss ws cs t
  unfolding charge
  charge_alike ws [] s t h = refl
  charge_alike ws (c ∷ cs) s t h = rw (shared_alike (get_or ss c []) s t h) (omega (arith, charge_alike ws cs s t h))

  charge_mono : (vs ws cs l : List ℕ) → ((i : ℕ) → get_or vs i 0 ≤ get_or ws i 0) → charge ss vs cs l ≤ charge ss ws cs l
  unfolding charge
  charge_mono vs ws [] l h = omega arith
  charge_mono vs ws (c ∷ cs) l h = omega (arith, charge_mono vs ws cs l h, mul-le-mul_right (shared (get_or ss c []) l) (h c))

module _ (f : ℕ) (ss : List (List ℕ)) where
  -- no subset with a weight has the place p: nor has the chosen one
  choice_avoid : (p c : ℕ) (ws : List ℕ) → Lowest f (length ss) ws c → ((i : ℕ) → 0 < get_or ws i 0 → times p (get_or ss i []) ≡ 0)
      → times p (get_or ss c []) ≡ 0
  unfolding times
  choice_avoid p c ws (none e k) h = rw (get_or-eq_default ss [] (le_of_eq (sym e)))
  choice_avoid p c ws (some m k j) h = h c (omega arith)

  -- nor has any that is chosen later
  picks_avoid : (p r : ℕ) (ws : List ℕ) → ((i : ℕ) → 0 < get_or ws i 0 → times p (get_or ss i []) ≡ 0) → times p (places ss (picks f r ss ws)) ≡ 0
  unfolding picks places times
  picks_avoid p zero ws h = refl
  picks_avoid p (suc r) ws h =
      let c : ℕ = choice f ss ws in
      let vs : List ℕ = clear (get_or ss c []) ss ws in
      let later : times p (places ss (picks f r ss vs)) ≡ 0 = picks_avoid p r vs (λ i m. h i (omega (arith, clear_le (get_or ss c []) ss ws i))) in
      rw times_append (omega (arith, choice_avoid p c ws (choice_is f ss ws) h))

  picks_once : ((i : ℕ) → NoneTwice (get_or ss i [])) → (r : ℕ) (ws : List ℕ) → NoneTwice (places ss (picks f r ss ws))
  unfolding picks places times
  picks_once o zero ws p = omega arith
  picks_once o (suc r) ws p =
      let c : ℕ = choice f ss ws in
      let vs : List ℕ = clear (get_or ss c []) ss ws in
      rw times_append (elim (eq-zero-or-pos (times p (get_or ss c []))) [
        | inl e ↦ omega (arith, picks_once o r vs p)
        | inr m ↦ omega (
          arith,
          o c p,
          picks_avoid p r vs (λ i k. elim (eq-zero-or-pos (times p (get_or ss i []))) [
            | inl e ↦ e
            | inr q ↦ omega (arith, clear_hit (get_or ss c []) ss ws i (omega (arith, shared_both p (get_or ss c []) (get_or ss i []) m)))
          ]),
        )
      ])

  picks-below : (n : ℕ) → ((i : ℕ) → AllBelow n (get_or ss i [])) → (r : ℕ) (ws : List ℕ) → AllBelow n (places ss (picks f r ss ws))
  picks-below n b r ws p h = picks_avoid p r ws (λ i m. b i p h)

  -- as long as a subset i above the floor is not met, each round chooses, and takes two places or more
  picks_long : (r i : ℕ) (ws : List ℕ) → ((j : ℕ) → 0 < get_or ws j 0 → 2 ≤ length (get_or ss j [])) → f < get_or ws i 0
      → shared (places ss (picks f r ss ws)) (get_or ss i []) ≡ 0 → 2 * r ≤ length (places ss (picks f r ss ws))
  unfolding picks places
  picks_long zero i ws w h e = omega arith
  picks_long (suc r) i ws w h e =
      let c : ℕ = choice f ss ws in
      let vs : List ℕ = clear (get_or ss c []) ss ws in
      let e' = rw shared_join at e in
      let same : get_or vs i 0 ≡ get_or ws i 0 = clear_miss (get_or ss c []) ss ws i (omega arith) in
      let later : 2 * r ≤ length (places ss (picks f r ss vs)) = picks_long r i vs (λ j m. w j (omega (arith, clear_le (get_or ss c []) ss ws j))) (omega arith) (omega arith) in
      rw length-append (elim (choice_is f ss ws) [
        | none q k ↦ omega (arith, k i)
        | some m k j ↦ omega (arith, w c (omega arith))
      ])

  -- so after enough rounds every subset above the floor is met
  picks_meet : (n r i : ℕ) (ws : List ℕ) → ((j : ℕ) → NoneTwice (get_or ss j [])) → ((j : ℕ) → AllBelow n (get_or ss j []))
      → ((j : ℕ) → 0 < get_or ws j 0 → 2 ≤ length (get_or ss j []))
      → n ≤ 2 * r + 1 → f < get_or ws i 0 → 1 ≤ shared (places ss (picks f r ss ws)) (get_or ss i [])
  picks_meet n r i ws o b w h m = elim (eq-zero-or-pos (shared (places ss (picks f r ss ws)) (get_or ss i []))) [
    | inr k ↦ k
    | inl e ↦
        let cs : List ℕ = places ss (picks f r ss ws) in
        let once : NoneTwice (cs ++ get_or ss i []) = λ p. rw times_append (elim (eq-zero-or-pos (times p cs)) [
          | inl z ↦ omega (arith, o i p)
          | inr z ↦ omega (arith, picks_once o r ws p, shared_both p cs (get_or ss i []) z)
        ]) in
        let below : AllBelow n (cs ++ get_or ss i []) = λ p q. rw times_append (omega (arith, b i p q, picks-below n b r ws p q)) in
        let size : length (cs ++ get_or ss i []) ≤ n = pigeon n (cs ++ get_or ss i []) once below in
        omega (arith, rw length-append at size, picks_long r i ws w m e, w i (omega arith))
  ]

  -- and weighs no more than what the chosen subsets bear for its places
  picks_charge : (r i : ℕ) (ws : List ℕ) → f < get_or ws i 0 → 1 ≤ shared (places ss (picks f r ss ws)) (get_or ss i [])
      → get_or ws i 0 ≤ charge ss ws (picks f r ss ws) (get_or ss i [])
  unfolding picks places charge shared
  picks_charge zero i ws m h = omega arith
  picks_charge (suc r) i ws m h =
      let c : ℕ = choice f ss ws in
      let d : List ℕ = get_or ss c [] in
      let vs : List ℕ = clear d ss ws in
      let h' = rw shared_join at h in
      let top : get_or ws i 0 ≤ get_or ws c 0 = elim (choice_is f ss ws) [ none q k ↦ omega (arith, k i) | some q k j ↦ k i ] in
      elim (eq-zero-or-pos (shared d (get_or ss i []))) [
        | inr z ↦ omega (arith, mul-le-mul_left (get_or ws c 0) z)
        | inl z ↦
            let same : get_or vs i 0 ≡ get_or ws i 0 = clear_miss d ss ws i z in
            omega (arith, picks_charge r i vs (omega arith) (omega arith), charge_mono ss vs ws (picks f r ss vs) (get_or ss i []) (clear_le d ss ws))
      ]

  -- a choice is none, or a subset whose weight was above the floor from the start
  picks_above : (r : ℕ) (ws : List ℕ) (c : ℕ) → 1 ≤ times c (picks f r ss ws) → (c ≡ length ss) ⊎ (f < get_or ws c 0)
  unfolding picks times
  picks_above zero ws c h = absurd (omega arith)
  picks_above (suc r) ws c h = go (same? c (choice f ss ws)) (choice_is f ss ws) (λ k. picks_above r (clear (get_or ss (choice f ss ws) []) ss ws) c k)
    where
      go : Same c (choice f ss ws) → Lowest f (length ss) ws (choice f ss ws)
          → (1 ≤ times c (picks f r ss (clear (get_or ss (choice f ss ws) []) ss ws)) → (c ≡ length ss) ⊎ (f < get_or (clear (get_or ss (choice f ss ws) []) ss ws) c 0))
          → (c ≡ length ss) ⊎ (f < get_or ws c 0)
      go (same e k) (none q z) ih = inl (omega arith)
      go (same e k) (some q z j) ih = inr (rw e q)
      go (other e k) q ih = elim (ih (omega arith)) [ inl z ↦ inl z | inr z ↦ inr (omega (arith, clear_le (get_or ss (choice f ss ws) []) ss ws c)) ]

-- ---- after all rounds nothing above the floor is left

module _ (f : ℕ) (ss : List (List ℕ)) where
  cleared_le : (r : ℕ) (ws : List ℕ) (i : ℕ) → get_or (cleared f r ss ws) i 0 ≤ get_or ws i 0
  unfolding cleared
  cleared_le zero ws i = omega arith
  cleared_le (suc r) ws i =
      let d : List ℕ = get_or ss (choice f ss ws) [] in
      omega (arith, cleared_le r (clear d ss ws) i, clear_le d ss ws i)

  -- a subset that is met weighs nothing
  pub cleared_met : (r : ℕ) (ws : List ℕ) (i : ℕ) → 1 ≤ shared (places ss (picks f r ss ws)) (get_or ss i []) → get_or (cleared f r ss ws) i 0 ≡ 0
  unfolding cleared picks places shared
  cleared_met zero ws i h = absurd (omega arith)
  cleared_met (suc r) ws i h =
      let d : List ℕ = get_or ss (choice f ss ws) [] in
      let h' = rw shared_join at h in
      elim (eq-zero-or-pos (shared d (get_or ss i []))) [
        | inr z ↦ omega (arith, cleared_le r (clear d ss ws) i, clear_hit d ss ws i z)
        | inl z ↦ cleared_met r (clear d ss ws) i (omega arith)
      ]

-- ---- the theorem

-- a table of subsets of the places below n: each holds no place twice, and one that has a weight has at least two places
pub record Family (n : ℕ) (ss : List (List ℕ)) (ws : List ℕ) : Type 0 where
  pub once : (i : ℕ) → NoneTwice (get_or ss i [])
  pub below : (i : ℕ) → AllBelow n (get_or ss i [])
  pub wide : (i : ℕ) → 0 < get_or ws i 0 → 2 ≤ length (get_or ss i [])

module _ (f n r : ℕ) (ss : List (List ℕ)) (ws : List ℕ) (t : Tally) (fam : Family n ss ws) where
  -- the chosen subsets share no place
  pub chosen_apart : NoneTwice (places ss (rounds f r ss ws t).choices)
  chosen_apart = rw rounds-picks (picks_once f ss fam.once r ws)

  pub chosen_above : (c : ℕ) → 1 ≤ times c (rounds f r ss ws t).choices → (c ≡ length ss) ⊎ (f < get_or ws c 0)
  chosen_above = rw rounds-picks (picks_above f ss r ws)

  module _ (enough : n ≤ 2 * r + 1) where
    -- a subset above the floor weighs no more than what the chosen ones bear for its places
    pub subset_charge : (i : ℕ) → f < get_or ws i 0 → get_or ws i 0 ≤ charge ss ws (rounds f r ss ws t).choices (get_or ss i [])
    subset_charge i m = rw rounds-picks (picks_charge f ss r i ws m (picks_meet f ss n r i ws fam.once fam.below fam.wide enough m))

    -- it shares a place with a chosen one
    pub subset_met : (i : ℕ) → f < get_or ws i 0 → 1 ≤ shared (places ss (rounds f r ss ws t).choices) (get_or ss i [])
    subset_met i m = rw rounds-picks (picks_meet f ss n r i ws fam.once fam.below fam.wide enough m)

    -- and once the last choice is cleared too, nothing above the floor is left
    pub cleared_quiet : (i : ℕ) → get_or (cleared f r ss ws) i 0 ≤ f
    cleared_quiet i = elim (dec_le (get_or (cleared f r ss ws) i 0) f) [
      | yes h ↦ h
      | no h ↦ omega (
        arith,
        cleared_met f ss r ws i (picks_meet f ss n r i ws fam.once fam.below fam.wide enough (omega (arith, cleared_le f ss r ws i))),
      )
    ]

-- the credit is at most l times the value, where no subset has more than l places
pub credit_most : (l : ℕ) (ss : List (List ℕ)) (ws cs : List ℕ) → ((i : ℕ) → length (get_or ss i []) ≤ l) → credit ss ws cs ≤ l * value ws cs
unfolding credit value
credit_most l ss ws [] h = omega arith
credit_most l ss ws (c ∷ cs) h = omega (arith, credit_most l ss ws cs h, mul-le-mul_left (get_or ws c 0) (h c))
