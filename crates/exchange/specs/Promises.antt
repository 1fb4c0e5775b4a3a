-- What is promised of every plan made, as statements: the proofs are in `proofs/`, and the contract of planning carries `Guarantee`.
-- Assumes nothing.
use Rattle.std.specs.Prelude.{ℕ, zero, suc, ◌+◌, ◌-◌, ◌*◌, ◌≤◌, ◌<◌, ◌≡◌, true, false, ◌↔◌, List, [], ◌∷◌, map, eqb, length, get_or}
use Rattle.laws.specs.Below.{one, Some, ExactlyOne}
use Rattle.refusal.specs.Answer.{finished, refused, Outcome}
use Rattle.greedy.specs.Places.{among, meets}
use Rattle.greedy.specs.Tally.{Tally, tally}
use Rattle.greedy.specs.Promises.{Remains}
use Rattle.exchange.specs.Subsets.{Scope, order, subset_count, entry, weigh, subset_weight, pairs_at}
use Rattle.exchange.specs.Input.{Input, Request, input_of, request}
use Rattle.exchange.specs.Planning.{Lent, Plan, round_count, planning}
use Rattle.exchange.specs.Algorithm1 as Algorithm1
use Rattle.exchange.specs.Algorithm1.{next}
use Rattle.exchange.specs.Faultless.{Compatibility, WeightyTables, FaultlessInput, PlanFault}
use Rattle.exchange.specs.Rivals.{planned, Each, Executable, ExchangeSetOf, AboveFloor, weight_in}
use Rattle.exchange.specs.Credit.{CreditsTwos}

-- ## The tally's closed form, in the words of demand 3

-- how many of the subsets have k places
unfoldable pub how_many : ℕ → List (List ℕ) → ℕ
how_many k [] = 0
how_many k (s ∷ ss) = one (eqb (length s) k) + how_many k ss

-- "T is the number of triples, P that of twos"
abbrev pub triple_count : Scope → ℕ
triple_count q = how_many 3 (order q)

abbrev pub two_count : Scope → ℕ
two_count q = how_many 2 (order q)

-- "products = 2P + 7T + R × (5n − 1) + (R − 1) × (2P + 3T) where R is at least 1, and 0 where R is 0"
unfoldable pub products_due : ℕ → ℕ → ℕ → ℕ
products_due T P zero = 0
products_due T P (suc r) = 2 * P + 7 * T + suc r * (5 * (T + P) - 1) + r * (2 * P + 3 * T)

-- "comparisons = T + R × n; rounds = R"
unfoldable pub tally_due : ℕ → ℕ → ℕ → Tally
tally_due T P R = tally (T + R * (T + P)) (products_due T P R) R

-- "With N pairs, T triples and P twos to be formed from them": counted in the published order, and as binomials
pub record TallyOf (q : Scope) (t : Tally) : Type 0 where
  pub sums : t ≡ tally_due (triple_count q) (two_count q) (round_count q.pairs)
  pub triples : 6 * triple_count q ≡ q.pairs * (q.pairs - 1) * (q.pairs - 2)
  pub twos : 2 * two_count q ≡ q.pairs * (q.pairs - 1)
  pub all : subset_count q ≡ triple_count q + two_count q

-- ## Donors and recipients

-- one planned cycle c in the two tables, place by place
pub record GivingOrder (c donors recipients : List ℕ) : Type 0 where
  -- "the donor of a place gives to the patient of the next"; "the recipient table holds whom pair i's donor gives to"
  pub gives : (k : ℕ) → k < length c → get_or recipients (get_or c k 0) 0 ≡ get_or c (next (length c) k) 0
  -- "the donor table who gives to patient i"
  pub receives : (k : ℕ) → k < length c → get_or donors (get_or c (next (length c) k) 0) 0 ≡ get_or c k 0

-- the partners in cycles cs of n pairs
pub record Consistent (n : ℕ) (cs : List (List ℕ)) (donors recipients : List ℕ) : Type 0 where
  -- the two tables are each other's inverse
  pub inverse : (i j : ℕ) → i < n → j < n → (get_or recipients i 0 ≡ j) ↔ (get_or donors j 0 ≡ i)
  -- a pair has a donor if and only if it has a recipient; then it is in exactly one cycle, and else in none
  pub both : (i : ℕ) → i < n → (get_or recipients i 0 < n) ↔ (get_or donors i 0 < n)
  pub in_one : (i : ℕ) → i < n → get_or recipients i 0 < n → ExactlyOne (length cs) (λ k. among i (get_or cs k []) ≡ true)
  pub in_none : (i k : ℕ) → i < n → get_or recipients i 0 ≡ n → among i (get_or cs k []) ≡ false
  pub known : (i : ℕ) → i < n → get_or recipients i 0 ≤ n
  pub donor_known : (i : ℕ) → i < n → get_or donors i 0 ≤ n
  -- "For each chosen cycle", the partners are those of its order
  pub in_order : Each (λ (c : List ℕ). GivingOrder c donors recipients) cs

-- ## "No weightless edges" (document 02, W-209): what that buys

pub record ExecutableWeighs (q : Input) : Type 0 where
  -- an executable cycle of two or more pairs of the pool weighs more than 0
  pub cycle : (c : List ℕ) → 2 ≤ length c → Each (λ (p : ℕ). p < q.scope.pairs) c → Executable q.compatible c → 0 < weigh q.compatible q.weight c
  -- so with floor 0 the rival sets above the floor are all rival sets
  pub set : q.floor ≡ 0 → (cs : List (List ℕ)) → ExchangeSetOf q cs → AboveFloor q cs

-- in every pool that planning accepts
abbrev pub AcceptedWeighs : Type 0
AcceptedWeighs = (r : Request) (t : Lent) → FaultlessInput r t → ExecutableWeighs (input_of r)

-- ## The guarantee, for a plan p that was made from q and what it left in the lent tables

pub record Guarantee (q : Input) (p : Plan) (t : Lent) : Type 0 where
  -- "all planned cycles are executable, no pair is in two of them"
  pub exchanges : ExchangeSetOf q (planned q.scope.pairs p t)
  -- "a subset is chosen only if its weight is above the floor": every planned cycle weighs more than it
  pub above : AboveFloor q (planned q.scope.pairs p t)
  -- "The plan's weight is the sum of their weights"
  pub weight : p.weight ≡ weight_in q (planned q.scope.pairs p t)
  -- "three times the plan's weight is at least the weight of every other set of executable 2- and 3-cycles sharing no pair", of "those whose cycles all
  -- weigh more than the floor"
  pub factor : (cs : List (List ℕ)) → ExchangeSetOf q cs → AboveFloor q cs → weight_in q cs ≤ q.scope.largest * p.weight
  -- "No weightless edges" (document 02, W-209): no executable cycle of two or more pairs weighs 0
  pub none_weightless : ExecutableWeighs q
  -- so with floor 0 the factor is against every such set, in demand 3's own words
  pub factor_all : q.floor ≡ 0 → (cs : List (List ℕ)) → ExchangeSetOf q cs → weight_in q cs ≤ q.scope.largest * p.weight
  -- "a bound that credits the twos" (document 02, W-208)
  pub credit : CreditsTwos q p.weight (planned q.scope.pairs p t)
  -- "every such tally is"
  pub tally : TallyOf q.scope p.tally
  -- "The plan equals that of Algorithm 1, in each pair's donor and recipient", and in its cycles
  pub partners : Algorithm1.Partners q t.donors t.recipients
  pub cycles : planned q.scope.pairs p t ≡ map (pairs_at q.shuffle) (Algorithm1.chosen_cycles q)
  pub consistent : Consistent q.scope.pairs (planned q.scope.pairs p t) t.donors t.recipients
  -- every subset that weighs more than the floor meets some round's choice
  pub met :
      (i : ℕ)
      → q.floor < subset_weight q.compatible q.weight q.shuffle (get_or (order q.scope) i [])
      → Some (round_count q.scope.pairs) (λ k. meets (get_or (order q.scope) i []) (get_or (order q.scope) (get_or t.choices k 0) []) ≡ true)
  -- "n weights, left as after round R": as evaluated, or 0 for sharing a place with the choice of a round but the last, and never for being light
  pub left :
      (i : ℕ)
      → i < subset_count q.scope
      → Remains (order q.scope) t.choices (round_count q.scope.pairs - 1) i
      (subset_weight q.compatible q.weight q.shuffle (get_or (order q.scope) i [])) (get_or t.weights i 0)

-- ## Every answer: a plan for every input with none of the faults, and for no other; else a refusal, and all lent memory unchanged

pub record Answered (r : Request) (t : Lent) (o : Outcome Plan Lent) : Type 0 where
  pub accepts : FaultlessInput r t → (p : Plan) × (o.answer ≡ finished p)
  pub accepted : (p : Plan) → o.answer ≡ finished p → FaultlessInput r t
  pub refuses : (k place : ℕ) → o.answer ≡ refused k place → (place ≡ 0) × PlanFault r t k × (o.lent ≡ t)

abbrev pub AnswersRightly : Type 0
AnswersRightly = (r : Request) (t : Lent) → Answered r t (planning r t)

-- of an M with 0 and 1 and no pair's own edge, and a W with no weightless edge, neither 10 nor 17 is told, whatever else is at fault
abbrev pub SoundTablesPassTenAndSeventeen : Type 0
SoundTablesPassTenAndSeventeen =
    (r : Request) (t : Lent)
    → Compatibility r.scope.pairs r.compatibilities
    → WeightyTables r.scope.pairs r.compatibilities r.weights
    → (k place : ℕ)
    → (planning r t).answer ≡ refused k place
    → (k ≡ 10 → ⊥) × (k ≡ 17 → ⊥)

-- ## No lent table grows or shrinks, whatever the answer

pub record SameLengths (t u : Lent) : Type 0 where
  pub weights : length u.weights ≡ length t.weights
  pub choices : length u.choices ≡ length t.choices
  pub donors : length u.donors ≡ length t.donors
  pub recipients : length u.recipients ≡ length t.recipients
  pub records : length u.records ≡ length t.records

abbrev pub LengthsStay : Type 0
LengthsStay = (r : Request) (t : Lent) → SameLengths t (planning r t).lent

-- ## Demands 2 and 3, for every plan made of N pairs with document 01's sizes and any floor

abbrev pub Guaranteed : Type 0
Guaranteed =
    (n f : ℕ) (M W s : List ℕ) (t : Lent) (p : Plan)
    → (planning (request n f M W s) t).answer ≡ finished p
    → Guarantee (input_of (request n f M W s)) p (planning (request n f M W s) t).lent

-- ## The promise of a call that plans: o is its answer and what it leaves

pub record PlansRightly (r : Request) (t : Lent) (o : Outcome Plan Lent) : Type 0 where
  pub equal : o ≡ planning r t
  pub answered : Answered r t o
  pub guarantee : (p : Plan) → o.answer ≡ finished p → Guarantee (input_of r) p o.lent

abbrev pub PlanningIsRight : Type 0
PlanningIsRight = (n f : ℕ) (M W s : List ℕ) (t : Lent) (o : Outcome Plan Lent) → o ≡ planning (request n f M W s) t → PlansRightly (request n f M W s) t o

-- "if they have equally many pairs and both plans are made, then both plans carry the same tally", whatever their floors
abbrev pub SameTally : Type 0
SameTally =
    (n f : ℕ) (M W s : List ℕ) (t : Lent) (p : Plan) (f' : ℕ) (M' W' s' : List ℕ) (t' : Lent) (p' : Plan)
    → (planning (request n f M W s) t).answer ≡ finished p
    → (planning (request n f' M' W' s') t').answer ≡ finished p'
    → p.tally ≡ p'.tally

-- W(i, j) plays no part where M(i, j) is not 1, in 17 and in a plan: equally long weight tables with the same entries where M is 1 have the same answer, and
-- leave the same
abbrev pub AbsentUnread : Type 0
AbsentUnread =
    (q : Scope) (f : ℕ) (M W W' s : List ℕ) (t : Lent)
    → length W ≡ length W'
    → ((i j : ℕ) → i < q.pairs → j < q.pairs → entry M q.pairs i j ≡ 1 → entry W q.pairs i j ≡ entry W' q.pairs i j)
    → planning (record { scope = q; floor = f; compatibilities = M; weights = W; shuffle = s }) t
    ≡ planning (record { scope = q; floor = f; compatibilities = M; weights = W'; shuffle = s }) t

-- "W(i, i) is not read": equally long weight tables with the same entries for different pairs have the same answer, and leave the same
abbrev pub DiagonalUnread : Type 0
DiagonalUnread =
    (q : Scope) (f : ℕ) (M W W' s : List ℕ) (t : Lent)
    → length W ≡ length W'
    → ((i j : ℕ) → i < q.pairs → j < q.pairs → (i ≡ j → ⊥) → entry W q.pairs i j ≡ entry W' q.pairs i j)
    → planning (record { scope = q; floor = f; compatibilities = M; weights = W; shuffle = s }) t
    ≡ planning (record { scope = q; floor = f; compatibilities = M; weights = W'; shuffle = s }) t

-- Algorithm 1's loop has ended: nothing above the floor is left, whatever the input
abbrev pub LoopEnds : Type 0
LoopEnds =
    (q : Input)
    → Algorithm1.some_above q.floor (Algorithm1.subset_weight q.shuffle q.compatible q.weight) (Algorithm1.looped q).rest ≡ false
