-- The numbers in which an exported call answers: `refusal` is document 01's number, whose least is 1, and 0 where the call finished. What the answer does
-- not say is 0. Assumes nothing.
use Rattle.std.specs.Prelude.{ℕ}
use Rattle.refusal.specs.Answer.{Answer, finished, refused}
use Rattle.pool.specs.Calls.{Head}
use Rattle.exchange.specs.Planning.{Plan}
use Rattle.numbers.specs.declared.ReadAnswer.{ReadAnswer}
use Rattle.numbers.specs.declared.WriteAnswer.{WriteAnswer}
use Rattle.numbers.specs.declared.JoinAnswer.{JoinAnswer}
use Rattle.numbers.specs.declared.BuildAnswer.{BuildAnswer}
use Rattle.numbers.specs.declared.LiveAnswer.{LiveAnswer}
use Rattle.numbers.specs.declared.PlanAnswer.{PlanAnswer}
use Rattle.numbers.specs.declared.PrintAnswer.{PrintAnswer}

-- the version and N, or "the number and the offset of the field"
unfoldable pub read_numbers : Answer Head → ReadAnswer
read_numbers (finished h) = record { refusal = 0; version = h.version; place = 0; pairs = h.pairs }
read_numbers (refused k o) = record { refusal = k; version = 0; place = o; pairs = 0 }

-- the sheet's length, or the number
unfoldable pub write_numbers : Answer ℕ → WriteAnswer
write_numbers (finished n) = record { refusal = 0; length = n }
write_numbers (refused k o) = record { refusal = k; length = 0 }

-- the joined sheet's length, or the number and its place
unfoldable pub join_numbers : Answer ℕ → JoinAnswer
join_numbers (finished n) = record { refusal = 0; place = 0; length = n }
join_numbers (refused k o) = record { refusal = k; place = o; length = 0 }

-- "planning and building give the number"
unfoldable pub build_numbers : Answer (Unit {0}) → BuildAnswer
build_numbers (finished u) = record { refusal = 0 }
build_numbers (refused k o) = record { refusal = k }

-- starting, registering and withdrawing give the number likewise
unfoldable pub live_numbers : Answer (Unit {0}) → LiveAnswer
live_numbers (finished u) = record { refusal = 0 }
live_numbers (refused k o) = record { refusal = k }

-- "the plan's weight, number of cycles and tally", or the number
unfoldable pub plan_numbers : Answer Plan → PlanAnswer
plan_numbers (finished p) =
    record {
      refusal = 0;
      cycles = p.cycles;
      weight = p.weight;
      comparisons = p.tally.comparisons;
      products = p.tally.products;
      rounds = p.tally.rounds;
    }
plan_numbers (refused k o) = record { refusal = k; cycles = 0; weight = 0; comparisons = 0; products = 0; rounds = 0 }

-- the text's length, or the number
unfoldable pub print_numbers : Answer ℕ → PrintAnswer
print_numbers (finished n) = record { refusal = 0; length = n }
print_numbers (refused k o) = record { refusal = k; length = 0 }
