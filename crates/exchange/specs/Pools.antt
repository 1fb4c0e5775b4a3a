-- "Pools to try": k1 to k12, each with what must come out, what floors make of some, weightless edges, and pools in which W-208's bound is met.
-- Assumes nothing.
use Rattle.std.specs.Prelude.{ℕ, ◌*◌, ◌/◌, ◌%◌, false, cond, List, [], ◌∷◌, ◌++◌, map, ◌≡◌, eqb, replicate}
use Rattle.laws.specs.Below.{table}
use Rattle.refusal.specs.Answer.{Answer, finished, refused, Outcome, outcome}
use Rattle.cycle.specs.declared.Cycle.{Cycle}
use Rattle.greedy.specs.Tally.{Tally, tally}
use Rattle.exchange.specs.Subsets.{up_to_three, subset_count}
use Rattle.exchange.specs.Input.{Input, Request, input_of, request}
use Rattle.exchange.specs.Planning.{Lent, lent, Plan, plan, round_count, planning}
use Rattle.exchange.specs.Rivals.{planned, Each, Exchange, ExchangeSet, ExchangeSetOf, AboveFloor, weight_in}
use Rattle.exchange.specs.Credit.{credit_in}
use Rattle.exchange.specs.Floors as Floorless

-- "Edges as donor→patient:weight"; `mark` is the edge's M entry
pub record Arrow : Type 0 where
  pub donor : ℕ
  pub patient : ℕ
  pub mark : ℕ
  pub weight : ℕ

abbrev pub marked : ℕ → ℕ → ℕ → ℕ → Arrow
marked m i j w = record { donor = i; patient = j; mark = m; weight = w }

abbrev pub edge : ℕ → ℕ → ℕ → Arrow
edge i j w = marked 1 i j w

-- what comes out: choices, weights after round R, weight, number of cycles, recipients, donors, records, tally; or the refusal's number and place, and
-- what is left in the lent tables
pub data Found : Type 0 where
  made : List ℕ → List ℕ → ℕ → ℕ → List ℕ → List ℕ → List Cycle → Tally → Found
  turned : ℕ → ℕ → Lent → Found

pub record Case : Type 0 where
  pub pairs : ℕ
  pub floor : ℕ
  pub edges : List Arrow
  pub shuffle : List ℕ
  pub due : Found

abbrev pub floored : ℕ → ℕ → List Arrow → List ℕ → Found → Case
floored n f es s d = record { pairs = n; floor = f; edges = es; shuffle = s; due = d }

abbrev pub case : ℕ → List Arrow → List ℕ → Found → Case
case n es s d = floored n 0 es s d

-- the entry of the first edge from i to j, 0 where there is none
unfoldable pub read : (Arrow → ℕ) → List Arrow → ℕ → ℕ → ℕ
read f [] i j = 0
read f (a ∷ es) i j = cond (cond (eqb i a.donor) (eqb j a.patient) false) (f a) (read f es i j)

unfoldable pub table_of : (Arrow → ℕ) → ℕ → List Arrow → List ℕ
table_of f n es = table (n * n) (λ k. read f es (k / n) (k % n))

abbrev pub cycle : ℕ → ℕ → ℕ → Cycle
cycle a b c = record { first = a; second = b; third = c }

-- lent tables of just the sizes due, their entries 99, which is no choice, weight or pair of these pools
unfoldable pub blank : ℕ → Lent
blank n =
    lent (replicate (subset_count (up_to_three n)) 99) (replicate (round_count n) 99) (replicate n 99) (replicate n 99)
    (replicate (round_count n) (cycle 99 99 99))

unfoldable pub found_in : Answer Plan → Lent → Found
found_in (finished p) t = made t.choices t.weights p.weight p.cycles t.recipients t.donors t.records p.tally
found_in (refused k o) t = turned k o t

-- what planning is asked: so many pairs, a floor, edges and a shuffle
abbrev pub asked : ℕ → ℕ → List Arrow → List ℕ → Request
asked n f es s = request n f (table_of (λ a. a.mark) n es) (table_of (λ a. a.weight) n es) s

unfoldable pub found : Case → Found
found c =
    let o : Outcome Plan Lent = planning (asked c.pairs c.floor c.edges c.shuffle) (blank c.pairs) in
    found_in o.answer o.lent

abbrev pub k3edges : List Arrow
k3edges = edge 0 1 5 ∷ edge 1 0 7 ∷ []

abbrev pub k5edges : List Arrow
k5edges = edge 0 1 0 ∷ edge 1 0 0 ∷ []

abbrev pub k8edges : List Arrow
k8edges =
    edge 0 1 2 ∷ edge 1 2 2 ∷ edge 2 0 2 ∷ edge 0 3 3 ∷ edge 3 0 3 ∷ edge 1 4 3 ∷ edge 4 1 3 ∷ edge 2 5 3 ∷ edge 5 2 3 ∷ []

-- "identity shuffle unless given"
abbrev pub cases : List Case
cases =
    -- k1, k2
    case 0 [] [] (made [] [] 0 0 [] [] [] (tally 0 0 0))
    ∷ case 1 [] (0 ∷ []) (made [] [] 0 0 (1 ∷ []) (1 ∷ []) [] (tally 0 0 0))
    -- k3
    ∷ case 2 k3edges (0 ∷ 1 ∷ []) (made (0 ∷ []) (12 ∷ []) 12 1 (1 ∷ 0 ∷ []) (1 ∷ 0 ∷ []) (cycle 0 1 2 ∷ []) (tally 1 6 1))
    -- k4
    ∷ case 2 (edge 0 1 5 ∷ []) (0 ∷ 1 ∷ []) (made (1 ∷ []) (0 ∷ []) 0 0 (2 ∷ 2 ∷ []) (2 ∷ 2 ∷ []) (cycle 99 99 99 ∷ []) (tally 1 6 1))
    -- k5, which "becomes a refused pool" (document 02, W-209)
    ∷ case 2 k5edges (0 ∷ 1 ∷ []) (turned 17 0 (blank 2))
    -- k6
    ∷ case 3 (edge 0 1 4 ∷ edge 1 2 4 ∷ edge 2 0 4 ∷ edge 1 0 4 ∷ edge 2 1 4 ∷ edge 0 2 4 ∷ []) (0 ∷ 1 ∷ 2 ∷ [])
    (made (0 ∷ []) (12 ∷ 8 ∷ 8 ∷ 8 ∷ []) 12 1 (1 ∷ 2 ∷ 0 ∷ []) (2 ∷ 0 ∷ 1 ∷ []) (cycle 0 1 2 ∷ []) (tally 5 32 1))
    -- k7
    ∷ case 3 (edge 0 1 1 ∷ edge 1 2 1 ∷ edge 2 0 1 ∷ edge 1 0 2 ∷ edge 2 1 2 ∷ edge 0 2 2 ∷ []) (0 ∷ 1 ∷ 2 ∷ [])
    (made (0 ∷ []) (6 ∷ 3 ∷ 3 ∷ 3 ∷ []) 6 1 (2 ∷ 0 ∷ 1 ∷ []) (1 ∷ 2 ∷ 0 ∷ []) (cycle 0 2 1 ∷ []) (tally 5 32 1))
    -- k8
    ∷ case 6 k8edges (0 ∷ 1 ∷ 2 ∷ 3 ∷ 4 ∷ 5 ∷ [])
    (made (0 ∷ 35 ∷ 35 ∷ []) (replicate 35 0) 6 1 (1 ∷ 2 ∷ 0 ∷ 6 ∷ 6 ∷ 6 ∷ []) (2 ∷ 0 ∷ 1 ∷ 6 ∷ 6 ∷ 6 ∷ []) (cycle 0 1 2 ∷ cycle 99 99 99 ∷ cycle 99 99 99 ∷ []) (tally 125 872 3))
    -- k9
    ∷ case 4 (edge 0 1 3 ∷ edge 1 0 3 ∷ edge 2 3 3 ∷ edge 3 2 3 ∷ []) (0 ∷ 1 ∷ 2 ∷ 3 ∷ [])
    (made (4 ∷ 9 ∷ []) (0 ∷ 0 ∷ 0 ∷ 0 ∷ 0 ∷ 0 ∷ 0 ∷ 0 ∷ 0 ∷ 6 ∷ []) 12 2 (1 ∷ 0 ∷ 3 ∷ 2 ∷ []) (1 ∷ 0 ∷ 3 ∷ 2 ∷ []) (cycle 0 1 4 ∷ cycle 2 3 4 ∷ []) (tally 24 162 2))
    -- k10, with the identity and with shuffle 2 0 1
    ∷ case 3 (edge 0 1 5 ∷ edge 1 0 5 ∷ edge 0 2 5 ∷ edge 2 0 5 ∷ []) (0 ∷ 1 ∷ 2 ∷ [])
    (made (1 ∷ []) (0 ∷ 10 ∷ 10 ∷ 0 ∷ []) 10 1 (1 ∷ 0 ∷ 3 ∷ []) (1 ∷ 0 ∷ 3 ∷ []) (cycle 0 1 3 ∷ []) (tally 5 32 1))
    ∷ case 3 (edge 0 1 5 ∷ edge 1 0 5 ∷ edge 0 2 5 ∷ edge 2 0 5 ∷ []) (2 ∷ 0 ∷ 1 ∷ [])
    (made (1 ∷ []) (0 ∷ 10 ∷ 0 ∷ 10 ∷ []) 10 1 (2 ∷ 3 ∷ 0 ∷ []) (2 ∷ 3 ∷ 0 ∷ []) (cycle 2 0 3 ∷ []) (tally 5 32 1))
    -- k11
    ∷ case 2 k3edges (0 ∷ 0 ∷ []) (turned 8 0 (blank 2))
    -- k12
    ∷ case 2 (marked 2 0 1 5 ∷ edge 1 0 7 ∷ []) (0 ∷ 1 ∷ []) (turned 10 0 (blank 2))
    ∷ []

-- ## What is promised of them

abbrev pub PoolsComeOut : Type 0
PoolsComeOut = map found cases ≡ map (λ (c : Case). c.due) cases

-- ## Floors (document 02, W-202)

-- a swap of weight 6 and one of weight 8; a swap of weight 10, and one of weight 2 that shares a pair with it
abbrev pub six_and_eight : List Arrow
six_and_eight = edge 0 1 3 ∷ edge 1 0 3 ∷ edge 2 3 4 ∷ edge 3 2 4 ∷ []

abbrev pub ten_and_two : List Arrow
ten_and_two = edge 0 1 5 ∷ edge 1 0 5 ∷ edge 0 2 1 ∷ edge 2 0 1 ∷ []

abbrev pub lightest : List Arrow
lightest = edge 0 1 1 ∷ edge 1 0 1 ∷ []

abbrev pub floors : List Case
floors =
    -- "above" is strict: k3 weighs 12
    floored 2 11 k3edges (0 ∷ 1 ∷ []) (made (0 ∷ []) (12 ∷ []) 12 1 (1 ∷ 0 ∷ []) (1 ∷ 0 ∷ []) (cycle 0 1 2 ∷ []) (tally 1 6 1))
    ∷ floored 2 12 k3edges (0 ∷ 1 ∷ []) (made (1 ∷ []) (12 ∷ []) 0 0 (2 ∷ 2 ∷ []) (2 ∷ 2 ∷ []) (cycle 99 99 99 ∷ []) (tally 1 6 1))
    -- k8, in which four subsets weigh 6 and no other anything, with floors 5 and 6: a weight is not set to 0 for being light
    ∷ floored 6 5 k8edges (0 ∷ 1 ∷ 2 ∷ 3 ∷ 4 ∷ 5 ∷ [])
    (made (0 ∷ 35 ∷ 35 ∷ []) (replicate 35 0) 6 1 (1 ∷ 2 ∷ 0 ∷ 6 ∷ 6 ∷ 6 ∷ []) (2 ∷ 0 ∷ 1 ∷ 6 ∷ 6 ∷ 6 ∷ []) (cycle 0 1 2 ∷ replicate 2 (cycle 99 99 99)) (tally 125 872 3))
    ∷ floored 6 6 k8edges (0 ∷ 1 ∷ 2 ∷ 3 ∷ 4 ∷ 5 ∷ [])
    (made (35 ∷ 35 ∷ 35 ∷ []) ((6 ∷ replicate 21 0) ++ (6 ∷ replicate 4 0) ++ (6 ∷ replicate 3 0) ++ (6 ∷ replicate 3 0)) 0 0 (replicate 6 6) (replicate 6 6) (replicate 3 (cycle 99 99 99)) (tally 125 872 3))
    -- the swap of weight 8 is chosen and cleared, that of weight 6 stays
    ∷ floored 4 6 six_and_eight (0 ∷ 1 ∷ 2 ∷ 3 ∷ [])
    (made (9 ∷ 10 ∷ []) (0 ∷ 0 ∷ 0 ∷ 0 ∷ 6 ∷ 0 ∷ 0 ∷ 0 ∷ 0 ∷ 0 ∷ []) 8 1 (4 ∷ 4 ∷ 3 ∷ 2 ∷ []) (4 ∷ 4 ∷ 3 ∷ 2 ∷ []) (cycle 2 3 4 ∷ cycle 99 99 99 ∷ []) (tally 24 162 2))
    -- one at or below the floor that shares a place with the choice is cleared like any other
    ∷ floored 4 5 ten_and_two (0 ∷ 1 ∷ 2 ∷ 3 ∷ [])
    (made (4 ∷ 10 ∷ []) (replicate 10 0) 10 1 (1 ∷ 0 ∷ 4 ∷ 4 ∷ []) (1 ∷ 0 ∷ 4 ∷ 4 ∷ []) (cycle 0 1 4 ∷ cycle 99 99 99 ∷ []) (tally 24 162 2))
    -- the lightest that there is, of weight 2, with floor 1 and with floor 2
    ∷ floored 2 1 lightest (0 ∷ 1 ∷ []) (made (0 ∷ []) (2 ∷ []) 2 1 (1 ∷ 0 ∷ []) (1 ∷ 0 ∷ []) (cycle 0 1 2 ∷ []) (tally 1 6 1))
    ∷ floored 2 2 lightest (0 ∷ 1 ∷ []) (made (1 ∷ []) (2 ∷ []) 0 0 (2 ∷ 2 ∷ []) (2 ∷ 2 ∷ []) (cycle 99 99 99 ∷ []) (tally 1 6 1))
    -- the greatest floor, and one above it
    ∷ floored 2 200000 k3edges (0 ∷ 1 ∷ []) (made (1 ∷ []) (12 ∷ []) 0 0 (2 ∷ 2 ∷ []) (2 ∷ 2 ∷ []) (cycle 99 99 99 ∷ []) (tally 1 6 1))
    ∷ floored 2 200001 k3edges (0 ∷ 1 ∷ []) (turned 13 0 (blank 2))
    ∷ []

abbrev pub FloorsComeOut : Type 0
FloorsComeOut = map found floors ≡ map (λ (c : Case). c.due) floors

-- ## Two faults at once: "planning checks 4, 9, 8, 10", with 13 after 4; the second has one, where the floor is not too high

abbrev pub two_faults : List Case
two_faults =
    floored 2 200001 k3edges (0 ∷ []) (turned 13 0 (blank 2))
    ∷ floored 2 200000 k3edges (0 ∷ []) (turned 9 0 (blank 2))
    ∷ case 2 (marked 2 0 1 5 ∷ []) (0 ∷ 0 ∷ []) (turned 8 0 (blank 2))
    ∷ []

abbrev pub FirstFaultTold : Type 0
FirstFaultTold = map found two_faults ≡ map (λ (c : Case). c.due) two_faults

-- no table at all
abbrev pub nothing : Lent
nothing = lent [] [] [] [] []

abbrev pub FourBeforeThirteen : Type 0
FourBeforeThirteen = planning (request 201 200001 [] [] []) nothing ≡ outcome (refused 4 0) nothing

-- k3 again, in tables longer than is due: "what lies past these, and past the last record, is unchanged"
abbrev pub PastUnchanged : Type 0
PastUnchanged =
    planning (asked 2 0 k3edges (0 ∷ 1 ∷ 99 ∷ []))
    (lent (99 ∷ 99 ∷ []) (99 ∷ 99 ∷ []) (99 ∷ 99 ∷ 99 ∷ []) (99 ∷ 99 ∷ 99 ∷ []) (cycle 99 99 99 ∷ cycle 99 99 99 ∷ []))
    ≡ outcome (finished (plan 12 1 (tally 1 6 1)))
    (lent (12 ∷ 99 ∷ []) (0 ∷ 99 ∷ []) (1 ∷ 0 ∷ 99 ∷ []) (1 ∷ 0 ∷ 99 ∷ []) (cycle 0 1 2 ∷ cycle 99 99 99 ∷ []))

-- ## "No weightless edges" (document 02, W-209)

abbrev pub weightless_cases : List Case
weightless_cases =
    -- one edge, which is in no cycle; one in the last row, beside one that weighs something; with a floor
    case 2 (edge 0 1 0 ∷ []) (0 ∷ 1 ∷ []) (turned 17 0 (blank 2))
    ∷ case 2 (edge 0 1 5 ∷ edge 1 0 0 ∷ []) (0 ∷ 1 ∷ []) (turned 17 0 (blank 2))
    ∷ floored 2 5 k5edges (0 ∷ 1 ∷ []) (turned 17 0 (blank 2))
    -- it has nothing to do with the floor: edges of weight 1 are accepted, and not planned with floor 5
    ∷ floored 2 5 lightest (0 ∷ 1 ∷ []) (made (1 ∷ []) (2 ∷ []) 0 0 (2 ∷ 2 ∷ []) (2 ∷ 2 ∷ []) (cycle 99 99 99 ∷ []) (tally 1 6 1))
    -- k3, with W(i, i) of 7
    ∷ case 2 (marked 0 0 0 7 ∷ marked 0 1 1 7 ∷ k3edges) (0 ∷ 1 ∷ [])
    (made (0 ∷ []) (12 ∷ []) 12 1 (1 ∷ 0 ∷ []) (1 ∷ 0 ∷ []) (cycle 0 1 2 ∷ []) (tally 1 6 1))
    -- "after 10": after 13, 9, 8 and 10
    ∷ floored 2 200001 k5edges (0 ∷ 1 ∷ []) (turned 13 0 (blank 2))
    ∷ case 2 k5edges (0 ∷ []) (turned 9 0 (blank 2))
    ∷ case 2 k5edges (0 ∷ 0 ∷ []) (turned 8 0 (blank 2))
    ∷ case 2 (edge 0 1 0 ∷ marked 2 1 0 7 ∷ []) (0 ∷ 1 ∷ []) (turned 10 0 (blank 2))
    ∷ case 2 (edge 1 1 0 ∷ k3edges) (0 ∷ 1 ∷ []) (turned 10 0 (blank 2))
    ∷ []

abbrev pub WeightlessAnswered : Type 0
WeightlessAnswered = map found weightless_cases ≡ map (λ (c : Case). c.due) weightless_cases

-- k3, with an entry 1 in M and 0 in W past its two rows
abbrev pub EntryPastUnread : Type 0
EntryPastUnread =
    planning (request 2 0 (0 ∷ 1 ∷ 1 ∷ 0 ∷ 1 ∷ []) (0 ∷ 5 ∷ 7 ∷ 0 ∷ 0 ∷ []) (0 ∷ 1 ∷ [])) (blank 2) ≡ planning (asked 2 0 k3edges (0 ∷ 1 ∷ [])) (blank 2)

abbrev pub k5 : Request
k5 = asked 2 0 k5edges (0 ∷ 1 ∷ [])

-- "Such tables used to be planned": k5 as document 01 had it, "Choice 1, no cycle"
abbrev pub K5Before : Type 0
K5Before =
    Floorless.planning 2 k5.compatibilities k5.weights k5.shuffle (blank 2)
    ≡ outcome (finished (plan 0 0 (tally 1 6 1))) (lent (0 ∷ []) (1 ∷ []) (2 ∷ 2 ∷ []) (2 ∷ 2 ∷ []) (cycle 99 99 99 ∷ []))

pub record WeightlessComeOut : Type 0 where
  pub come : WeightlessAnswered
  pub past : EntryPastUnread
  pub before : K5Before
  -- what `ExecutableWeighs` rules out: k5's cycle is executable, and weighs 0
  pub rival : ExchangeSetOf (input_of k5) ((0 ∷ 1 ∷ []) ∷ []) × (weight_in (input_of k5) ((0 ∷ 1 ∷ []) ∷ []) ≡ 0)

-- ## Rivals that weigh as much as W-208's sum allows

-- two bounds on the rivals: the sum over the records that planning leaves, and three times the plan's weight; of a refusal none
unfoldable pub bounds_by : Input → Answer Plan → Lent → List ℕ
bounds_by q (finished p) t = credit_in q (planned q.scope.pairs p t) ∷ 3 * p.weight ∷ []
bounds_by q (refused k o) t = []

unfoldable pub bounds_of : Request → List ℕ
bounds_of r = let o : Outcome Plan Lent = planning r (blank r.scope.pairs) in bounds_by (input_of r) o.answer o.lent

-- in a pool with these two bounds some rival set weighs the first of them
pub record Tight (r : Request) (sum thrice : ℕ) (rival : List (List ℕ)) : Type 0 where
  pub bounds : bounds_of r ≡ sum ∷ thrice ∷ []
  pub set : ExchangeSetOf (input_of r) rival
  pub above : AboveFloor (input_of r) rival
  pub weight : weight_in (input_of r) rival ≡ sum

-- k8 with any floor
abbrev pub k8 : ℕ → Request
k8 f = asked 6 f k8edges (0 ∷ 1 ∷ 2 ∷ 3 ∷ 4 ∷ 5 ∷ [])

abbrev pub k8rival : List (List ℕ)
k8rival = (0 ∷ 3 ∷ []) ∷ (1 ∷ 4 ∷ []) ∷ (2 ∷ 5 ∷ []) ∷ []

-- 0 and 1, 0 and 2, 1 and 3 both ways at 5. Planned: 0 and 1
abbrev pub four : Request
four = asked 4 0 (edge 0 1 5 ∷ edge 1 0 5 ∷ edge 0 2 5 ∷ edge 2 0 5 ∷ edge 1 3 5 ∷ edge 3 1 5 ∷ []) (0 ∷ 1 ∷ 2 ∷ 3 ∷ [])

abbrev pub four_rival : List (List ℕ)
four_rival = (0 ∷ 2 ∷ []) ∷ (1 ∷ 3 ∷ []) ∷ []

-- 0→1→2→0 and 0→3→4→0 at 4; 1 and 5, 2 and 6 both ways at 6; the shuffle 2 0 1 6 5 4 3. Planned: 2→0→1→2; the rivals are of both sizes
abbrev pub seven : Request
seven =
    asked 7 0
    (edge 0 1 4 ∷ edge 1 2 4 ∷ edge 2 0 4 ∷ edge 0 3 4 ∷ edge 3 4 4 ∷ edge 4 0 4 ∷ edge 1 5 6 ∷ edge 5 1 6 ∷ edge 2 6 6 ∷ edge 6 2 6 ∷ [])
    (2 ∷ 0 ∷ 1 ∷ 6 ∷ 5 ∷ 4 ∷ 3 ∷ [])

abbrev pub seven_rival : List (List ℕ)
seven_rival = (0 ∷ 3 ∷ 4 ∷ []) ∷ (1 ∷ 5 ∷ []) ∷ (2 ∷ 6 ∷ []) ∷ []

-- 0→1→2→0 at 4, 3 and 4 both ways at 4; 0 and 5, 1 and 6, 2 and 7 both ways at 6; 3 and 8, 4 and 9 both ways at 4. Planned: 0→1→2→0, and 3 and 4
abbrev pub ten : Request
ten =
    asked 10 0
    (edge 0 1 4 ∷ edge 1 2 4 ∷ edge 2 0 4 ∷ edge 3 4 4 ∷ edge 4 3 4
    ∷ edge 0 5 6 ∷ edge 5 0 6 ∷ edge 1 6 6 ∷ edge 6 1 6 ∷ edge 2 7 6 ∷ edge 7 2 6
    ∷ edge 3 8 4 ∷ edge 8 3 4 ∷ edge 4 9 4 ∷ edge 9 4 4
    ∷ [])
    (0 ∷ 1 ∷ 2 ∷ 3 ∷ 4 ∷ 5 ∷ 6 ∷ 7 ∷ 8 ∷ 9 ∷ [])

abbrev pub ten_rival : List (List ℕ)
ten_rival = (0 ∷ 5 ∷ []) ∷ (1 ∷ 6 ∷ []) ∷ (2 ∷ 7 ∷ []) ∷ (3 ∷ 8 ∷ []) ∷ (4 ∷ 9 ∷ []) ∷ []

-- one cycle of four, and nothing smaller
abbrev pub square : Request
square = asked 4 0 (edge 0 1 4 ∷ edge 1 2 4 ∷ edge 2 3 4 ∷ edge 3 0 4 ∷ []) (0 ∷ 1 ∷ 2 ∷ 3 ∷ [])

pub record CreditsComeOut : Type 0 where
  -- k8, "weight 6 against a rival 18", with floor 0 and with floor 5: a triple is planned
  pub triple : Tight (k8 0) 18 18 k8rival
  pub floor : Tight (k8 5) 18 18 k8rival
  -- a two; a triple, beside rivals of both sizes; a triple and a two
  pub two : Tight four 20 30 four_rival
  pub shuffled : Tight seven 36 36 seven_rival
  pub both : Tight ten 52 60 ten_rival
  -- no premise on the rivals can go. Against cycles at the floor: k8 with floor 6, where nothing is planned and its rival is not above the floor
  pub light :
      (bounds_of (k8 6) ≡ 0 ∷ 0 ∷ [])
      × ExchangeSetOf (input_of (k8 6)) k8rival
      × (weight_in (input_of (k8 6)) k8rival ≡ 18)
      × (AboveFloor (input_of (k8 6)) k8rival → ⊥)
  -- against cycles that share a pair: the three swaps of `four` weigh 30, where the sum is 20
  pub sharing :
      Each (Exchange 3 4 (input_of four).compatible) ((0 ∷ 1 ∷ []) ∷ four_rival)
      × AboveFloor (input_of four) ((0 ∷ 1 ∷ []) ∷ four_rival)
      × (weight_in (input_of four) ((0 ∷ 1 ∷ []) ∷ four_rival) ≡ 30)
  -- against cycles of four: that of `square` weighs 16, where nothing is planned
  pub larger :
      (bounds_of square ≡ 0 ∷ 0 ∷ [])
      × ExchangeSet 4 4 (input_of square).compatible ((0 ∷ 1 ∷ 2 ∷ 3 ∷ []) ∷ [])
      × (weight_in (input_of square) ((0 ∷ 1 ∷ 2 ∷ 3 ∷ []) ∷ []) ≡ 16)
