-- `scan::pairs` meets its contract. The loop's invariant: the first i pairs have no fault, and their ids are noted. Assumes nothing.
use mathlib.Core.Path.{◌≡◌}
use lib.ListN.{length}
use Rattle.refusal.specs.Fault.{none, first_below}
use Rattle.pool.specs.Faults.{pair_field_fault}
use Rattle.scan.specs.Preconditions.{Noted}
use Rattle.scan.proofs.pairs.Given as goal

abbrev pub invariant-loop-i : goal.invariant-loop-i
invariant-loop-i l = (length l.ids ≡ 200) × Noted l.b l.i l.ids × (first_below l.i (pair_field_fault l.b) ≡ none)
