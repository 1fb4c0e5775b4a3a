-- The promises of the numbers: what each call answers has a number and place as they ask, and no two such answers have the same numbers. Assumes nothing.
use Rattle.std.specs.Prelude.{Result, Ok, Err}
use mathlib.Core.Path.{◌≡◌, refl, sym, ap}
use Prim.Native.Nat.{ℕ, ◌≤◌}
use native.Mathlib.Omega.{arith}
use Rattle.refusal.specs.Answer.{Answer, finished, refused}
use Rattle.refusal.specs.Number.{number_of}
use Rattle.refusal.specs.declared.Refusal.{Refusal}
use Rattle.refusal.specs.declared.Refused.{Refused}
use Rattle.refusal.specs.declared.Refusal.TheVariants.{CutOff, WrongField, WrongVersion, TooManyPairs, LeftOver, OutOfRange, RepeatedId, NotAShuffle, TooShort, NotCompatibility}
use Rattle.refusal.specs.declared.Refusal.TheVariants.{SharedId, TooManyTogether, FloorTooHigh, WrongPoints, DifferentPoints, UnknownId, WeightlessEdge}
use Rattle.greedy.specs.Tally.{tally}
use Rattle.pool.specs.Calls.{head}
use Rattle.exchange.specs.Planning.{Plan, plan}
use Rattle.reader.specs.Answers as Reader
use Rattle.reader.specs.declared.Head.{Head}
use Rattle.writer.specs.Answers as Writer
use Rattle.joining.specs.Answers as Joiner
use Rattle.weighing.specs.Answers as Weighing
use Rattle.live.specs.Answers as Live
use Rattle.planner.specs.Answers as Planner
use Rattle.planner.specs.declared.Planned.{Planned}
use Rattle.printout.specs.Answers as Printout
use Rattle.numbers.specs.declared.PlanAnswer.{PlanAnswer}
use Rattle.numbers.specs.Numbers.{read_numbers, write_numbers, join_numbers, build_numbers, live_numbers, plan_numbers, print_numbers}
use Rattle.numbers.specs.Promises.{Numbered, NumberedAt0, Own, OneAnswer}

-- ## What each call answers

from_one : (why : Refusal) → 1 ≤ number_of why
from_one CutOff = omega arith
from_one WrongField = omega arith
from_one WrongVersion = omega arith
from_one TooManyPairs = omega arith
from_one LeftOver = omega arith
from_one OutOfRange = omega arith
from_one RepeatedId = omega arith
from_one NotAShuffle = omega arith
from_one TooShort = omega arith
from_one NotCompatibility = omega arith
from_one SharedId = omega arith
from_one TooManyTogether = omega arith
from_one FloorTooHigh = omega arith
from_one WrongPoints = omega arith
from_one DifferentPoints = omega arith
from_one UnknownId = omega arith
from_one WeightlessEdge = omega arith

at_0 : {Given : Type 0} (why : Refusal) → NumberedAt0 {Result = Given} (refused (number_of why) 0)
at_0 why k o e = let f : k ≡ number_of why = cc in let g : o ≡ 0 = cc in (rw f (from_one why), g)

of_finished : {Given : Type 0} (x : Given) → NumberedAt0 (finished x)
of_finished x k o e = let z : ◌≡◌ {A = ℕ} 0 1 = cc in absurd (omega arith)

of_refused : {Given : Type 0} (why : Refusal) (place : ℕ) → Numbered {Result = Given} (refused (number_of why) place)
of_refused why place k o e = let f : k ≡ number_of why = cc in rw f (from_one why)

pub read_numbered : (r : Result Head Refused) → Numbered (Reader.answer_of r)
unfolding Reader.answer_of
read_numbered (Ok h) k o e = (of_finished (head h.version h.pairs) k o e).0
read_numbered (Err r) k o e = of_refused r.why r.place k o e

pub write_numbered : (r : Result ℕ Refusal) → NumberedAt0 (Writer.answer_of r)
unfolding Writer.answer_of
write_numbered (Ok n) = of_finished n
write_numbered (Err why) = at_0 why

pub join_numbered : (r : Result ℕ Refused) → Numbered (Joiner.answer_of r)
unfolding Joiner.answer_of
join_numbered (Ok n) k o e = (of_finished n k o e).0
join_numbered (Err r) k o e = of_refused r.why r.place k o e

pub build_numbered : (r : Result Unit Refusal) → NumberedAt0 (Weighing.answer_of r)
unfolding Weighing.answer_of
build_numbered (Ok _) = of_finished tt
build_numbered (Err why) = at_0 why

pub live_numbered : (r : Result Unit Refusal) → NumberedAt0 (Live.answer_of r)
unfolding Live.answer_of
live_numbered (Ok _) = of_finished tt
live_numbered (Err why) = at_0 why

pub plan_numbered : (r : Result Planned Refusal) → NumberedAt0 (Planner.answer_of r)
unfolding Planner.answer_of
plan_numbered (Ok p) = of_finished _
plan_numbered (Err why) = at_0 why

pub print_numbered : (r : Result ℕ Refusal) → NumberedAt0 (Printout.answer_of r)
unfolding Printout.answer_of
print_numbered (Ok n) = of_finished n
print_numbered (Err why) = at_0 why

-- ## No two answers have the same numbers

not_0 : {A : Type 0} {k : ℕ} → 1 ≤ k → 0 ≡ k → A
not_0 h e = absurd (omega arith)

own_read : Own Numbered read_numbers
unfolding read_numbers
own_read (finished m) (finished n) p q e = ap (λ x. finished (head x.version x.pairs)) e
own_read (finished m) (refused k o) p q e = not_0 (q k o refl) (ap (λ x. x.refusal) e)
own_read (refused k o) (finished n) p q e = not_0 (p k o refl) (sym (ap (λ x. x.refusal) e))
own_read (refused k o) (refused l u) p q e = ap (λ x. refused x.refusal x.place) e

same_refusal : {Given : Type 0} {k l o u at : ℕ} → k ≡ l → o ≡ at → u ≡ at → ◌≡◌ {A = Answer Given} (refused k o) (refused l u)
same_refusal e f g = cc

own_write : Own NumberedAt0 write_numbers
unfolding write_numbers
own_write (finished m) (finished n) p q e = ap (λ x. finished x.length) e
own_write (finished m) (refused k o) p q e = not_0 (q k o refl).0 (ap (λ x. x.refusal) e)
own_write (refused k o) (finished n) p q e = not_0 (p k o refl).0 (sym (ap (λ x. x.refusal) e))
own_write (refused k o) (refused l u) p q e = same_refusal (ap (λ x. x.refusal) e) (p k o refl).1 (q l u refl).1

own_join : Own Numbered join_numbers
unfolding join_numbers
own_join (finished m) (finished n) p q e = ap (λ x. finished x.length) e
own_join (finished m) (refused k o) p q e = not_0 (q k o refl) (ap (λ x. x.refusal) e)
own_join (refused k o) (finished n) p q e = not_0 (p k o refl) (sym (ap (λ x. x.refusal) e))
own_join (refused k o) (refused l u) p q e = ap (λ x. refused x.refusal x.place) e

own_build : Own NumberedAt0 build_numbers
unfolding build_numbers
own_build (finished u) (finished v) p q e = refl
own_build (finished m) (refused k o) p q e = not_0 (q k o refl).0 (ap (λ x. x.refusal) e)
own_build (refused k o) (finished n) p q e = not_0 (p k o refl).0 (sym (ap (λ x. x.refusal) e))
own_build (refused k o) (refused l u) p q e = same_refusal (ap (λ x. x.refusal) e) (p k o refl).1 (q l u refl).1

own_live : Own NumberedAt0 live_numbers
unfolding live_numbers
own_live (finished u) (finished v) p q e = refl
own_live (finished m) (refused k o) p q e = not_0 (q k o refl).0 (ap (λ x. x.refusal) e)
own_live (refused k o) (finished n) p q e = not_0 (p k o refl).0 (sym (ap (λ x. x.refusal) e))
own_live (refused k o) (refused l u) p q e = same_refusal (ap (λ x. x.refusal) e) (p k o refl).1 (q l u refl).1

plan_given : PlanAnswer → Plan
plan_given r = plan r.weight r.cycles (tally r.comparisons r.products r.rounds)

own_plan : Own NumberedAt0 plan_numbers
unfolding plan_numbers plan_given
own_plan (finished m) (finished n) p q e = ap (λ x. finished (plan_given x)) e
own_plan (finished m) (refused k o) p q e = not_0 (q k o refl).0 (ap (λ x. x.refusal) e)
own_plan (refused k o) (finished n) p q e = not_0 (p k o refl).0 (sym (ap (λ x. x.refusal) e))
own_plan (refused k o) (refused l u) p q e = same_refusal (ap (λ x. x.refusal) e) (p k o refl).1 (q l u refl).1

own_print : Own NumberedAt0 print_numbers
unfolding print_numbers
own_print (finished m) (finished n) p q e = ap (λ x. finished x.length) e
own_print (finished m) (refused k o) p q e = not_0 (q k o refl).0 (ap (λ x. x.refusal) e)
own_print (refused k o) (finished n) p q e = not_0 (p k o refl).0 (sym (ap (λ x. x.refusal) e))
own_print (refused k o) (refused l u) p q e = same_refusal (ap (λ x. x.refusal) e) (p k o refl).1 (q l u refl).1

pub one_answer : OneAnswer
one_answer = record { read = own_read; write = own_write; join = own_join; build = own_build; live = own_live; plan = own_plan; print = own_print }
