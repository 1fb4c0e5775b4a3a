-- `withdrawing::take_out` meets its contract: what `shifting` leaves of a table is, in a table of numbers, what is promised. Assumes nothing.
use mathlib.Core.Path.{ap₂}
use Rattle.graph.specs.Graph.{graph}
use Rattle.live.specs.Calls.{without_pair}
use Rattle.shifting.proofs.Numbers.{number_out, numbers_out}
use Rattle.withdrawing.proofs.take_out.Goals as goal

pub returns-clause-fields : goal.returns-clause-fields
unfolding without_pair
returns-clause-fields c =
    let l = c.requires.numbers.inside in
    let f = c.requires.fields in
    λ k.
    record {
      ids = number_out _ _ _ _ (record { inside = l; fits = f.ids }) c.without_entry.ensures k;
      donor_blood = number_out _ _ _ _ (record { inside = l; fits = f.donor_blood }) c.without_entry-2.ensures k;
      patient_blood = number_out _ _ _ _ (record { inside = l; fits = f.patient_blood }) c.without_entry-3.ensures k;
      donor_age = number_out _ _ _ _ (record { inside = l; fits = f.donor_age }) c.without_entry-4.ensures k;
      patient_age = number_out _ _ _ _ (record { inside = l; fits = f.patient_age }) c.without_entry-5.ensures k;
      donor_antigens = number_out _ _ _ _ (record { inside = l; fits = f.donor_antigens }) c.without_entry-6.ensures k;
      patient_antigens = number_out _ _ _ _ (record { inside = l; fits = f.patient_antigens }) c.without_entry-7.ensures k;
      patient_antibodies = number_out _ _ _ _ (record { inside = l; fits = f.patient_antibodies }) c.without_entry-8.ensures k;
    }

pub returns-clause-graph : goal.returns-clause-graph
returns-clause-graph c =
    let p = c.requires in
    let t = p.numbers.tables in
    ap₂ graph
    (numbers_out _ _ _ (record { inside = p.numbers.inside; few = t.few; fits = t.rows }) _ c.without_row.ensures)
    (numbers_out _ _ _ (record { inside = p.numbers.inside; few = t.few; fits = p.weights }) _ c.without_row-2.ensures)
