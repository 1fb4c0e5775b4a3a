-- "A tighter statement for the buyer's file" (document 02, W-208): a bound that credits the twos. Assumes nothing.
use Rattle.std.specs.Prelude.{ℕ, zero, suc, ◌+◌, ◌*◌, ◌≤◌, ◌<◌, ◌≡◌, cond, List, [], ◌∷◌, eqb, length}
use Rattle.refusal.specs.Answer.{finished}
use Rattle.greedy.specs.Places.{among}
use Rattle.exchange.specs.Subsets.{weigh}
use Rattle.exchange.specs.Input.{Input, input_of, request}
use Rattle.exchange.specs.Planning.{Lent, Plan, planning}
use Rattle.exchange.specs.Rivals.{planned, ExchangeSetOf, AboveFloor, weight_in}

-- ## The sum

-- "add up each planned cycle's weight times its number of pairs": the cycle's own number, whatever sizes there are
unfoldable pub credited : (ℕ → ℕ → ℕ) → (ℕ → ℕ → ℕ) → List (List ℕ) → ℕ
credited m w [] = 0
credited m w (c ∷ cs) = weigh m w c * length c + credited m w cs

-- by the M and W of planning's input
abbrev pub credit_in : Input → List (List ℕ) → ℕ
credit_in q cs = credited q.compatible q.weight cs

-- ## The same sum again: by the twos, and by the pairs

-- the twos among some cycles
unfoldable pub twos_of : List (List ℕ) → List (List ℕ)
twos_of [] = []
twos_of (c ∷ cs) = cond (eqb (length c) 2) (c ∷ twos_of cs) (twos_of cs)

-- what the cycle weighs that pair i is in, 0 where it is in none
unfoldable pub weight_of_pair : (ℕ → ℕ → ℕ) → (ℕ → ℕ → ℕ) → List (List ℕ) → ℕ → ℕ
weight_of_pair m w [] i = 0
weight_of_pair m w (c ∷ cs) i = cond (among i c) (weigh m w c) (weight_of_pair m w cs i)

-- f 0 + f 1 + .. + f (n - 1)
unfoldable pub sum_below : ℕ → (ℕ → ℕ) → ℕ
sum_below zero f = 0
sum_below (suc n) f = sum_below n f + f n

-- ## The bound, for cycles planned from q that weigh so much together

pub record CreditsTwos (q : Input) (weight : ℕ) (cycles : List (List ℕ)) : Type 0 where
  -- "That sum is at least the weight of every rival set of executable 2- and 3-cycles that share no pair and each weigh above the floor"
  pub bound : (cs : List (List ℕ)) → ExchangeSetOf q cs → AboveFloor q cs → weight_in q cs ≤ credit_in q cycles
  -- with floor 0 of every rival set, in demand 3's own words: each is above the floor then, as no edge is weightless (W-209)
  pub bound_all : q.floor ≡ 0 → (cs : List (List ℕ)) → ExchangeSetOf q cs → weight_in q cs ≤ credit_in q cycles
  -- what it credits: the sum and the weight of the planned twos together are three times the plan's weight, for sizes to three
  pub twos : credit_in q cycles + weight_in q (twos_of cycles) ≡ 3 * weight
  -- so it is never above what the factor gives, and below it as soon as a two is planned
  pub most : credit_in q cycles ≤ q.scope.largest * weight
  pub less : 0 < length (twos_of cycles) → credit_in q cycles < 3 * weight
  -- the same sum pair by pair, with no cycle's number of pairs in it: every pair counts with the weight of the cycle that it is in
  pub pairs : credit_in q cycles ≡ sum_below q.scope.pairs (weight_of_pair q.compatible q.weight cycles)

-- "For every accepted pool and made plan": whatever N, floor, M, W, shuffle and lent tables are, of the cycles in the records that planning leaves
abbrev pub EveryPlanCreditsTwos : Type 0
EveryPlanCreditsTwos =
    (n f : ℕ) (M W s : List ℕ) (t : Lent) (p : Plan)
    → (planning (request n f M W s) t).answer ≡ finished p
    → CreditsTwos (input_of (request n f M W s)) p.weight (planned n p (planning (request n f M W s) t).lent)
