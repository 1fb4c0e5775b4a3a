-- What planning with buffers for 40 pairs asks, and what it leaves. Assumes nothing.
use Rattle.std.specs.Prelude.{ℕ, ◌*◌, ◌≤◌, ◌≡◌, List, length, replicate}
use Rattle.laws.specs.Lent.{filled}
use Rattle.refusal.specs.Answer.{Answer, outcome}
use Rattle.cycle.specs.declared.Cycle.{Cycle}
use Rattle.exchange.specs.Input.{Request, input_of}
use Rattle.exchange.specs.Resolution.{donor_table, recipient_table}
use Rattle.exchange.specs.Planning.{Lent, Plan, most_floor, planned_by, plan_from}
use Rattle.exchange.specs.Faultless.{Compatibility, WeightyTables, Shuffles}
use Rattle.exchange.specs.Promises.{PlansRightly}
use Rattle.answers.specs.Most.{most}

-- tables M and W of at most 40 pairs, a floor and a shuffle, that planning does not refuse
pub record FaultlessTables (r : Request) : Type 0 where
  pub few : r.scope.pairs ≤ most
  pub low : r.floor ≤ most_floor
  pub compatibilities : r.scope.pairs * r.scope.pairs ≤ length r.compatibilities
  pub weights : r.scope.pairs * r.scope.pairs ≤ length r.weights
  pub shuffle : r.scope.pairs ≤ length r.shuffle
  pub each_once : Shuffles r
  pub compatible : Compatibility r.scope.pairs r.compatibilities
  pub weighty : WeightyTables r.scope.pairs r.compatibilities r.weights

-- 20 records of zeros, to be written over
abbrev pub no_records : List Cycle
no_records = replicate 20 (record { first = 0; second = 0; third = 0 })

-- planning's answer, and what it left of tables that were lent with such a table of records: some records, and the other tables
pub record Recorded (a : Request) (lends left : List Cycle → Lent) (o : Answer Plan) : Type 0 where
  pub records : List Cycle
  pub rightly : PlansRightly a (lends no_records) (outcome o (left records))

-- what planning makes of them: the result p, and the partners in lent tables that held a and b, and hold d and e
pub record Partnered (r : Request) (a b : List ℕ) (p : Plan) (d e : List ℕ) : Type 0 where
  pub result : p ≡ plan_from (input_of r)
  pub donors : d ≡ filled (donor_table r.scope.pairs (planned_by (input_of r))) a
  pub recipients : e ≡ filled (recipient_table r.scope.pairs (planned_by (input_of r))) b
