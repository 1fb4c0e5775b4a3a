-- `graph::compatibility_row` meets its contract. The loop's invariant: the entries of the columns passed stand in row i, in a table as long as it was.
-- Assumes nothing.
use Prim.Native.Nat.{◌*◌}
use Rattle.pool.specs.Tables.{pair_in}
use Rattle.donation.specs.Compatibility.{compatibility}
use Rattle.graph.specs.Sources.{fields_of_m}
use Rattle.graph.proofs.Rows.{Storing}
use Rattle.graph.proofs.compatibility_row.Given as goal

abbrev pub invariant-loop-j : goal.invariant-loop-j
invariant-loop-j l =
    Storing (l.i * l.n) l.j (compatibility (pair_in (fields_of_m l.donor_blood l.patient_blood l.donor_antigens l.patient_antibodies)) l.i)
    l.initial.compatibilities l.compatibilities
