-- Algorithm 1 of arXiv 2302.13880, line by line; its `S` is the published order of subsets, and its 0 the floor (document 02, W-202). It shares with 01's way of planning
-- the subsets and their order, the cycles of a subset, what a cycle weighs, the first of greatest weight, and what it is to share a place; its shuffled
-- graph, its loop, with no round, no table of weights and nothing set to 0, and each pair's donor and recipient are its own. Assumes nothing.
use Rattle.std.specs.Prelude.{ℕ, zero, suc, ◌<◌, ◌≡◌, Bool, false, cond, ltb, length, get_or}
use mathlib.Core.List.{List, [], ◌∷◌, map, Memᴰ}
use Rattle.laws.specs.Below.{either}
use Rattle.greedy.specs.Places.{meets}
use Rattle.exchange.specs.Subsets.{order, subset_count, cycles, weigh, heaviest}
use Rattle.exchange.specs.Input.{Input}

-- line 1, "Shuffle G": node p of the shuffled graph is pair s(p)
unfoldable pub shuffled : List ℕ → (ℕ → ℕ → ℕ) → ℕ → ℕ → ℕ
shuffled s m p q = m (get_or s p 0) (get_or s q 0)

-- lines 2 to 5, "the first cycle of max. weight for the nodes in s": subset_map(s), and its weight, weights(s)
unfoldable pub subset_map : (ℕ → ℕ → ℕ) → (ℕ → ℕ → ℕ) → List ℕ → List ℕ
subset_map m w s = heaviest (weigh m w) (cycles s)

unfoldable pub subset_weight : List ℕ → (ℕ → ℕ → ℕ) → (ℕ → ℕ → ℕ) → List ℕ → ℕ
subset_weight s m w t = weigh (shuffled s m) (shuffled s w) (subset_map (shuffled s m) (shuffled s w) t)

-- line 7, "exists s in S: weights(s) > 0", with the floor f for 0
unfoldable pub some_above : ℕ → (List ℕ → ℕ) → List (List ℕ) → Bool
some_above f weight [] = false
some_above f weight (s ∷ S) = either (ltb f (weight s)) (some_above f weight S)

-- line 10, "S without those that meet s_max"
unfoldable pub without : List ℕ → List (List ℕ) → List (List ℕ)
without c [] = []
without c (s ∷ S) = cond (meets s c) (without c S) (s ∷ without c S)

-- the subsets chosen, and what is left of S
pub record Loop : Type 0 where
  pub chosen : List (List ℕ)
  pub rest : List (List ℕ)

-- lines 6 to 10, the loop; line 8 takes "the first subset of maximum weight in S". Each turn removes its own s_max at least, so it has ended
-- after as many turns as S has subsets, the first argument: a promise says that nothing above the floor is then left
unfoldable pub loop : ℕ → ℕ → (List ℕ → ℕ) → List (List ℕ) → Loop
loop zero f weight S = record { chosen = []; rest = S }
loop (suc k) f weight S =
    let heavy : List ℕ = heaviest weight S in
    let next : Loop = loop k f weight (without heavy S) in
    cond (some_above f weight S) (record { chosen = heavy ∷ next.chosen; rest = next.rest }) (record { chosen = []; rest = S })

unfoldable pub looped : Input → Loop
looped q = loop (subset_count q.scope) q.floor (subset_weight q.shuffle q.compatible q.weight) (order q.scope)

-- line 11, chosen_cycles: cycles of nodes of the shuffled graph
unfoldable pub chosen_cycles : Input → List (List ℕ)
chosen_cycles q = map (subset_map (shuffled q.shuffle q.compatible) (shuffled q.shuffle q.weight)) (looped q).chosen

-- ## Functionality 1: "the indices of donor and recipient for pair i", with the shuffle undone. An account of its own, with no list of edges

-- the place after place k of a cycle of so many; after the last comes the first
unfoldable pub next : ℕ → ℕ → ℕ
next size k = cond (ltb (suc k) size) (suc k) 0

-- pair i's donor gives to pair j's patient: in a chosen cycle, the one is at a node and the other at the next
pub record Gives (q : Input) (i j : ℕ) : Type 0 where
  pub cycle : List ℕ
  pub chosen : Memᴰ cycle (chosen_cycles q)
  pub at : ℕ
  pub within : at < length cycle
  pub giver : get_or q.shuffle (get_or cycle at 0) 0 ≡ i
  pub receiver : get_or q.shuffle (get_or cycle (next (length cycle) at) 0) 0 ≡ j

-- v, of n pairs, is the partner: the one pair of which P holds; or n, where it holds of none
pub data Partner (n : ℕ) (P : ℕ → Type 0) (v : ℕ) : Type 0 where
  somebody : P v → ((j : ℕ) → P j → j ≡ v) → Partner n P v
  nobody : v ≡ n → ((j : ℕ) → P j → ⊥) → Partner n P v

-- each pair's donor and recipient, as two tables hold them
pub record Partners (q : Input) (donors recipients : List ℕ) : Type 0 where
  pub recipient : (i : ℕ) → i < q.scope.pairs → Partner q.scope.pairs (λ j. Gives q i j) (get_or recipients i 0)
  pub donor : (j : ℕ) → j < q.scope.pairs → Partner q.scope.pairs (λ i. Gives q i j) (get_or donors j 0)
