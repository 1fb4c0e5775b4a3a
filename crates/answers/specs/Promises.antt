-- What is promised of answering, as statements: the proofs are in `proofs/`, and the contract of `answer` carries `AnswersSheet`. Assumes nothing.
use Rattle.std.specs.Prelude.{ℕ, ◌*◌, ◌≤◌, ◌<◌, ◌≡◌, List, map, length, get_or}
use Rattle.laws.specs.Below.{table}
use Rattle.refusal.specs.Answer.{finished, refused, Outcome}
use Rattle.pool.specs.Points.{Points}
use Rattle.pool.specs.Sheet.{pairs_in, pair_at, shuffle_at}
use Rattle.pool.specs.Tables.{Fields}
use Rattle.pool.specs.Faultless.{EachOnce, FaultlessSheet, SheetFault}
use Rattle.graph.specs.Graph.{Graph}
use Rattle.weighing.specs.Building.{building}
use Rattle.weighing.specs.Promises.{Plannable}
use Rattle.greedy.specs.Tally.{tally}
use Rattle.exchange.specs.Subsets.{pairs_at}
use Rattle.exchange.specs.Input.{Input, request}
use Rattle.exchange.specs.Planning.{Lent, Plan, most_floor, planning}
use Rattle.exchange.specs.Algorithm1 as Algorithm1
use Rattle.exchange.specs.Faultless.{LongEnough}
use Rattle.exchange.specs.Rivals.{ExchangeSetOf, weight_in}
use Rattle.exchange.specs.Credit.{CreditsTwos}
use Rattle.exchange.specs.Promises.{TallyOf, ExecutableWeighs}
use Rattle.printout.specs.Printed.{PrintedPlan, plan_text, refusal_text}
use Rattle.answers.specs.Most.{most}
use Rattle.answers.specs.Answering.{pool_input, points_on, putting, answering}

-- tables of up to 200 pairs that are as building gives them (`Plannable`), which a live pool has too, are planned with any shuffle, any floor up to the
-- greatest and any tables that are long enough: they have no fault 10, and no fault 17
abbrev pub PlannableIsPlanned : Type 0
PlannableIsPlanned =
    (q : Points) (n floor : ℕ) (g : Graph) (s : List ℕ) (t : Lent)
    → n ≤ 200
    → Plannable q n g
    → floor ≤ most_floor
    → EachOnce n (λ j. get_or s j 0)
    → LongEnough (request n floor g.compatibilities g.weights s) t
    → (p : Plan) × ((planning (request n floor g.compatibilities g.weights s) t).answer ≡ finished p)

-- and whatever shuffle, floor and tables are lent with them, neither 10 nor 17 is told
abbrev pub PlannablePassesTenAndSeventeen : Type 0
PlannablePassesTenAndSeventeen =
    (q : Points) (n floor : ℕ) (g : Graph) (s : List ℕ) (t : Lent)
    → Plannable q n g
    → (k place : ℕ)
    → (planning (request n floor g.compatibilities g.weights s) t).answer ≡ refused k place
    → (k ≡ 10 → ⊥) × (k ≡ 17 → ⊥)

-- so those that were built are planned, by whatever points 14 lets pass
abbrev pub BuiltIsPlanned : Type 0
BuiltIsPlanned =
    (v n floor : ℕ) (points : List ℕ) (f : Fields) (old g : Graph) (s : List ℕ) (t : Lent)
    → (building v n points f old).answer ≡ finished tt
    → g ≡ (building v n points f old).lent
    → floor ≤ most_floor
    → EachOnce n (λ j. get_or s j 0)
    → LongEnough (request n floor g.compatibilities g.weights s) t
    → (p : Plan) × ((planning (request n floor g.compatibilities g.weights s) t).answer ≡ finished p)

-- ## Demands 2 and 3, and W-208's bound, for the plan p that is printed of q

pub record PlanGuarantee (q : Input) (p : PrintedPlan) : Type 0 where
  -- the planned cycles: "executable, no pair is in two of them"
  pub planned : List (List ℕ)
  pub exchanges : ExchangeSetOf q planned
  pub number : p.cycles ≡ length planned
  pub weighs : p.weight ≡ weight_in q planned
  -- "No weightless edges" (document 02, W-209): no executable cycle of two or more pairs weighs 0
  pub none_weightless : ExecutableWeighs q
  -- "three times the plan's weight is at least the weight of every other set of executable 2- and 3-cycles sharing no pair"
  pub factor : (cs : List (List ℕ)) → ExchangeSetOf q cs → weight_in q cs ≤ q.scope.largest * p.weight
  -- "a bound that credits the twos" (document 02, W-208)
  pub credit : CreditsTwos q p.weight planned
  -- "every such tally is"
  pub counts : TallyOf q.scope (tally p.comparisons p.products p.rounds)
  -- "The plan equals that of Algorithm 1, in each pair's donor and recipient", and in its cycles
  pub partners : Algorithm1.Partners q p.donors p.recipients
  pub cycles : planned ≡ map (pairs_at q.shuffle) (Algorithm1.chosen_cycles q)

-- the plan p that answers the sheet b: of the pool that b says, by the points that it is weighed by
pub record SheetPlanned (b : List ℕ) (p : PrintedPlan) : Type 0 where
  pub pairs : p.pairs ≡ pairs_in b
  pub ids : p.ids ≡ table (pairs_in b) (λ i. (pair_at b i).id)
  pub guarantee : PlanGuarantee (pool_input (points_on b) (pairs_in b) (pair_at b) (shuffle_at b (pairs_in b))) p

-- fault k of a sheet that is to be answered, at place o: one of the sheet's, or 9 with place 0 for more than 40 pairs
pub data AnswerFault (b : List ℕ) : ℕ → ℕ → Type 0 where
  sheet : (k o : ℕ) → SheetFault b k o → AnswerFault b k o
  too_many : FaultlessSheet b → most < pairs_in b → AnswerFault b 9 0

-- ## The promise of the call: o is its answer, and what it leaves of the buffer `out`

pub record AnswersSheet (b out : List ℕ) (o : Outcome ℕ (List ℕ)) : Type 0 where
  pub equal : o ≡ answering b out
  -- every sheet of at most 40 pairs with none of the listed faults is answered by the text of a plan for which demands 2 and 3 and W-208's bound hold
  pub plans : FaultlessSheet b → pairs_in b ≤ most → (p : PrintedPlan) × SheetPlanned b p × (o ≡ putting (plan_text p) out)
  -- any other is answered by the text of a refusal, which names a fault that is there, and none that is looked for before it
  pub refuses :
      (FaultlessSheet b → pairs_in b ≤ most → ⊥)
      → (k : ℕ) × (place : ℕ) × AnswerFault b k place × (o ≡ putting (refusal_text k place) out)

abbrev pub AnsweringIsRight : Type 0
AnsweringIsRight = (b out : List ℕ) (o : Outcome ℕ (List ℕ)) → o ≡ answering b out → AnswersSheet b out o
