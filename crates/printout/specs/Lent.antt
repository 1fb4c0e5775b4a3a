-- What is printed of a plan, as a contract has it: one value of the arguments, at one moment and at entry. Assumes nothing.
use Rattle.std.specs.Prelude.{ℕ}
use Rattle.pool.specs.Lent.{Ref, Slice}
use Rattle.printout.specs.Printed.{PrintedPlan, printed_plan}

abbrev pub printed_now : ℕ → ℕ → ℕ → Ref → Ref → Ref → ℕ → ℕ → ℕ → PrintedPlan
printed_now a b c d e f g h i = printed_plan a b c d.now e.now f.now g h i

abbrev pub printed : ℕ → ℕ → ℕ → Slice → Slice → Slice → ℕ → ℕ → ℕ → PrintedPlan
printed a b c d e f g h i = printed_now a b c d.entry e.entry f.entry g h i
