-- `graph::weight_row` meets its contract. The loop's invariant: the entries of the columns passed stand in row i, in a table as long as it was.
-- Assumes nothing.
use Prim.Native.Nat.{◌*◌}
use Rattle.pool.specs.Tables.{pair_in}
use Rattle.points.specs.Named.{named}
use Rattle.donation.specs.Weight.{weight}
use Rattle.graph.specs.Sources.{fields_of_w}
use Rattle.graph.proofs.Rows.{Storing}
use Rattle.graph.proofs.weight_row.Given as goal

abbrev pub invariant-loop-j : goal.invariant-loop-j
invariant-loop-j l =
    Storing (l.i * l.n) l.j (weight (named l.points) (pair_in (fields_of_w l.donor_age l.patient_age l.donor_antigens l.patient_antigens)) l.i)
    l.initial.weights l.weights
