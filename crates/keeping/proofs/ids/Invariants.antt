-- `keeping::ids` meets its contract. The loop's invariant: the ids passed have no fault. Assumes nothing.
use mathlib.Core.Path.{◌≡◌}
use Rattle.refusal.specs.Fault.{none, first_below}
use Rattle.pool.specs.Tables.{item_in}
use Rattle.pool.specs.Faults.{id_fault}
use Rattle.keeping.proofs.ids.Given as goal

abbrev pub invariant-loop-i : goal.invariant-loop-i
invariant-loop-i l = first_below l.i (id_fault 0 (item_in l.ids)) ≡ none
