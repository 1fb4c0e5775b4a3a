-- The answer of planning, and the later contents of everything lent. Assumes nothing.
use Rattle.std.specs.Prelude.{ℕ, ◌*◌, ◌/◌, Bool, not, ◌&&◌, List, map, eqb, ltb, length, get_or}
use Rattle.laws.specs.Below.{either, any_below}
use Rattle.laws.specs.Lent.{filled}
use Rattle.refusal.specs.Fault.{Fault, refuse, ◌then◌}
use Rattle.refusal.specs.Answer.{Outcome, unless}
use Rattle.pool.specs.Faults.{shuffle_fault, room_fault}
use Rattle.cycle.specs.declared.Cycle.{Cycle}
use Rattle.greedy.specs.Tally.{Tally, tally}
use Rattle.greedy.specs.Rounds.{Left, rounds}
use Rattle.exchange.specs.Subsets.{Scope, order, subset_count, entry, subset_weights, evaluation_tally}
use Rattle.exchange.specs.Input.{Input, Request, input_of}
use Rattle.exchange.specs.Resolution.{resolved, record_of, recipient_table, donor_table, total}

-- the tables lent to be filled
pub record Lent : Type 0 where
  pub weights : List ℕ
  pub choices : List ℕ
  pub donors : List ℕ
  pub recipients : List ℕ
  pub records : List Cycle

abbrev pub lent : List ℕ → List ℕ → List ℕ → List ℕ → List Cycle → Lent
lent a b c d e = record { weights = a; choices = b; donors = c; recipients = d; records = e }

-- "The result carries the plan's weight, number of cycles and tally"
pub record Plan : Type 0 where
  pub weight : ℕ
  pub cycles : ℕ
  pub tally : Tally

abbrev pub plan : ℕ → ℕ → Tally → Plan
plan w c t = record { weight = w; cycles = c; tally = t }

-- "R = N/2 rounded down"
abbrev pub round_count : ℕ → ℕ
round_count n = n / 2

-- ## Turned back: "planning checks 4, 9, 8, 10", with 13 "after 4" (document 02, W-202) and 17 "after 10" (W-209), and gives the number; the place is 0

-- "Planning takes a floor, 0 to 200,000"
abbrev pub most_floor : ℕ
most_floor = 200000

-- how many entries each table to be filled has
pub record Lengths : Type 0 where
  pub weights : ℕ
  pub choices : ℕ
  pub donors : ℕ
  pub recipients : ℕ
  pub records : ℕ

abbrev pub lengths : ℕ → ℕ → ℕ → ℕ → ℕ → Lengths
lengths a b c d e = record { weights = a; choices = b; donors = c; recipients = d; records = e }

abbrev pub lengths_of : Lent → Lengths
lengths_of t = lengths (length t.weights) (length t.choices) (length t.donors) (length t.recipients) (length t.records)

-- "9 a lent table too short": those that are read, by their lengths
unfoldable pub short_to_read : ℕ → ℕ → ℕ → ℕ → Fault
short_to_read n m w s = room_fault m (n * n) then room_fault w (n * n) then room_fault s n

-- then those to be filled
unfoldable pub short_to_fill : Scope → Lengths → Fault
short_to_fill q z =
    room_fault z.weights (subset_count q)
    then room_fault z.choices (round_count q.pairs)
    then room_fault z.donors q.pairs
    then room_fault z.recipients q.pairs
    then room_fault z.records (round_count q.pairs)

-- "10 an M entry above 1, or M(i, i) not 0"
unfoldable pub table_fault : ℕ → List ℕ → Fault
table_fault n M =
    refuse 10 0 (any_below n (λ i. either (any_below n (λ j. ltb 1 (entry M n i j))) (not (eqb (entry M n i i) 0))))

-- "where M(i, j) is 1 and W(i, j) is 0"
abbrev pub weightless : ℕ → List ℕ → List ℕ → ℕ → ℕ → Bool
weightless n M W i j = eqb (entry M n i j) 1 && eqb (entry W n i j) 0

-- 17 a present edge that weighs 0
unfoldable pub edge_fault : ℕ → List ℕ → List ℕ → Fault
edge_fault n M W = refuse 17 0 (any_below n (λ i. any_below n (weightless n M W i)))

unfoldable pub plan_fault : Request → Lengths → Fault
plan_fault r z =
    refuse 4 0 (ltb 200 r.scope.pairs)
    then refuse 13 0 (ltb most_floor r.floor)
    then short_to_read r.scope.pairs (length r.compatibilities) (length r.weights) (length r.shuffle)
    then short_to_fill r.scope z
    then shuffle_fault 0 r.scope.pairs (λ j. get_or r.shuffle j 0)
    then table_fault r.scope.pairs r.compatibilities
    then edge_fault r.scope.pairs r.compatibilities r.weights

-- ## The plan

-- evaluation, then all rounds; the tally "begins at 0"
unfoldable pub left_by : Input → Left
left_by q =
    rounds q.floor (round_count q.scope.pairs) (order q.scope) (subset_weights q.scope q.compatible q.weight q.shuffle)
    (evaluation_tally (order q.scope) (tally 0 0 0))

-- the planned cycles
unfoldable pub planned_by : Input → List (List ℕ)
planned_by q = resolved q.compatible q.weight q.shuffle (order q.scope) (left_by q).choices

-- the result
unfoldable pub plan_from : Input → Plan
plan_from q = plan (total q.compatible q.weight (planned_by q)) (length (planned_by q)) (left_by q).tally

-- "n weights, left as after round R; R choices; donor and recipient tables, N each; what lies past these, and past the last record, is
-- unchanged"
unfoldable pub filled_lent : Input → Lent → Lent
filled_lent q t =
    lent (filled (left_by q).weights t.weights) (filled (left_by q).choices t.choices)
    (filled (donor_table q.scope.pairs (planned_by q)) t.donors) (filled (recipient_table q.scope.pairs (planned_by q)) t.recipients)
    (filled (map (record_of q.scope.pairs) (planned_by q)) t.records)

-- what planning answers, and what it leaves
unfoldable pub planning : Request → Lent → Outcome Plan Lent
planning r t = unless (plan_fault r (lengths_of t)) (plan_from (input_of r)) (filled_lent (input_of r) t) t
