-- "Resolution": the chosen cycles, as records and as partners. Assumes nothing.
use Rattle.std.specs.Prelude.{ℕ, ◌+◌, cond, eqb, ltb, length, get_or}
use mathlib.Core.List.{List, [], ◌∷◌, flat_map}
use Rattle.laws.specs.Below.{table}
use Rattle.cycle.specs.declared.Cycle.{Cycle}
use Rattle.exchange.specs.Subsets.{Edge, edges, weigh, pairs_at, best_cycle}

-- the chosen cycles "in order of choice", each as its pairs "in giving order from the lowest place"; the choice n is none
unfoldable pub resolved : (ℕ → ℕ → ℕ) → (ℕ → ℕ → ℕ) → List ℕ → List (List ℕ) → List ℕ → List (List ℕ)
resolved m w s ss [] = []
resolved m w s ss (c ∷ cs) =
    cond (ltb c (length ss)) (pairs_at s (best_cycle m w s (get_or ss c [])) ∷ resolved m w s ss cs) (resolved m w s ss cs)

-- a cycle's record: "three pair numbers, the third N for a two"
unfoldable pub record_of : ℕ → List ℕ → Cycle
record_of n c = record { first = get_or c 0 n; second = get_or c 1 n; third = get_or c 2 n }

-- the pairs of a record
unfoldable pub pairs_of : ℕ → Cycle → List ℕ
pairs_of n r = cond (eqb r.third n) (r.first ∷ r.second ∷ []) (r.first ∷ r.second ∷ r.third ∷ [])

-- whom pair i's donor gives to by these edges, and who gives to patient i; n where nobody. Cycles that share no pair have one such edge at most
unfoldable pub recipient_by : List Edge → ℕ → ℕ → ℕ
recipient_by [] n i = n
recipient_by (e ∷ es) n i = cond (eqb i e.donor) e.patient (recipient_by es n i)

unfoldable pub donor_by : List Edge → ℕ → ℕ → ℕ
donor_by [] n i = n
donor_by (e ∷ es) n i = cond (eqb i e.patient) e.donor (donor_by es n i)

-- "the recipient table holds whom pair i's donor gives to, the donor table who gives to patient i; N means none"
unfoldable pub recipient_table : ℕ → List (List ℕ) → List ℕ
recipient_table n cs = table n (λ i. recipient_by (flat_map edges cs) n i)

unfoldable pub donor_table : ℕ → List (List ℕ) → List ℕ
donor_table n cs = table n (λ i. donor_by (flat_map edges cs) n i)

-- "It weighs the sum of its cycles' weights"
unfoldable pub total : (ℕ → ℕ → ℕ) → (ℕ → ℕ → ℕ) → List (List ℕ) → ℕ
total m w [] = 0
total m w (c ∷ cs) = weigh m w c + total m w cs
