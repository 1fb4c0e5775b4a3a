-- `keeping::groups` meets its contract. The loop's invariant: the pairs passed have no fault. Assumes nothing.
use mathlib.Core.Path.{◌≡◌}
use Rattle.refusal.specs.Fault.{none, first_below}
use Rattle.pool.specs.Tables.{item_in}
use Rattle.pool.specs.Faults.{group_fault}
use Rattle.keeping.proofs.groups.Given as goal

abbrev pub invariant-loop-i : goal.invariant-loop-i
invariant-loop-i l =
    first_below l.i (λ j. group_fault 0 (item_in l.donor_blood j) (item_in l.patient_blood j) (item_in l.donor_age j) (item_in l.patient_age j)) ≡ none
