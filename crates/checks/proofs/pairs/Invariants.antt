-- `checks::pairs` meets its contract. The loop's invariant: the pairs passed have no fault. Assumes nothing.
use Prim.Native.Nat.{ℕ, ◌≤◌}
use mathlib.Core.List.{List}
use mathlib.Core.Path.{◌≡◌}
use Rattle.refusal.specs.Fault.{none, first_below}
use Rattle.pool.specs.Tables.{pair_in}
use Rattle.pool.specs.Faults.{pair_fault}
use Rattle.fields.specs.Lent.{fields_in}
use Rattle.checks.proofs.pairs.Given as goal

abbrev pub invariant-loop-i : goal.invariant-loop-i
invariant-loop-i l = (l.n ≤ 200) × (l.n ≤ l.space) × (let t = fields_in l.fields in (f g h : List ℕ) → first_below l.i (pair_fault 0 (pair_in (record t { donor_antigens = f; patient_antigens = g; patient_antibodies = h }))) ≡ none)
