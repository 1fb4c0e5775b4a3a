-- `plan::read_sheet` meets its contract. The loop's invariant: what was read is within the table. Assumes nothing.
use Rattle.std.proofs.Common.{length, ◌-◌, ◌≤◌}
use Rattle.plan.proofs.read_sheet.Given as goal

abbrev pub invariant-loop-size : goal.invariant-loop-size
invariant-loop-size g l = l.size ≤ length l.sheet

abbrev pub decreases-loop-size : goal.decreases-loop-size
decreases-loop-size g l = length l.sheet - l.size
