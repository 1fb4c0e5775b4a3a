-- Cycles resolved: their weight, number and records, and their partners edge by edge. Assumes nothing.
use Rattle.std.specs.Prelude.{ℕ, ◌+◌, ◌≡◌, length, set, replicate}
use mathlib.Core.List.{List, [], ◌∷◌, map, flat_map}
use Rattle.laws.specs.Below.{table}
use Rattle.laws.specs.Lent.{stored, filled}
use Rattle.cycle.specs.declared.Cycle.{Cycle}
use Rattle.exchange.specs.Subsets.{Scope, order, Edge, edges, entry, pairs_at, best_cycle}
use Rattle.exchange.specs.Resolution.{record_of, resolved, total}
use Rattle.resolution.specs.declared.Giving.{Giving}
use Rattle.resolution.specs.declared.Resolved.{Resolved}

-- a recipient table after these edges: each donor's entry is the patient
unfoldable pub given : List Edge → List ℕ → List ℕ
given [] l = l
given (e ∷ es) l = given es (set l e.donor e.patient)

-- a donor table after these edges: each patient's entry is the donor
unfoldable pub received : List Edge → List ℕ → List ℕ
received [] l = l
received (e ∷ es) l = received es (set l e.patient e.donor)

-- partner tables of n pairs with nobody in them
abbrev pub nobody : ℕ → List ℕ
nobody n = table n (λ i. n)

-- the partner tables of cycles of n pairs, edge by edge; those of cycles that share no pair are `recipient_table` and `donor_table`
abbrev pub given_in : ℕ → List (List ℕ) → List ℕ
given_in n cs = given (flat_map edges cs) (nobody n)

abbrev pub received_in : ℕ → List (List ℕ) → List ℕ
received_in n cs = received (flat_map edges cs) (nobody n)

-- the cycle that a subset t is weighed by, as its pairs, by lent tables
abbrev pub cycle_of : ℕ → List ℕ → List ℕ → List ℕ → List ℕ → List ℕ
cycle_of n M W s t = pairs_at s (best_cycle (entry M n) (entry W n) s t)

-- the cycles of these choices
abbrev pub cycles_of : Scope → List ℕ → List ℕ → List ℕ → List ℕ → List (List ℕ)
cycles_of q M W s choices = resolved (entry M q.pairs) (entry W q.pairs) s (order q) choices

-- records of no cycle: N three times
abbrev pub no_records : ℕ → List Cycle
no_records n = replicate 100 (record_of n [])

abbrev pub none_yet : ℕ → Resolved
none_yet n = record { weight = 0; cycles = 0; records = no_records n }

-- one cycle more
abbrev pub with_cycle : Resolved → Giving → Resolved
with_cycle r g = record { weight = r.weight + g.weight; cycles = r.cycles + 1; records = set r.records r.cycles g.cycle }

-- the weight, the number and the records of cycles of n pairs
abbrev pub resolved_cycles : ℕ → List ℕ → List ℕ → List (List ℕ) → Resolved
resolved_cycles n M W cs = record { weight = total (entry M n) (entry W n) cs; cycles = length cs; records = filled (map (record_of n) cs) (no_records n) }

-- what more cycles leave: their weight, number and records with those so far, and their edges
pub record Added (n : ℕ) (M W : List ℕ) (cs : List (List ℕ)) (r : Resolved) (donors recipients : List ℕ) (r' : Resolved) (donors' recipients' : List ℕ) : Type 0 where
  pub weight : r'.weight ≡ r.weight + total (entry M n) (entry W n) cs
  pub cycles : r'.cycles ≡ r.cycles + length cs
  pub in_records : r'.records ≡ stored r.cycles (map (record_of n) cs) r.records
  pub in_recipients : recipients' ≡ given (flat_map edges cs) recipients
  pub in_donors : donors' ≡ received (flat_map edges cs) donors
