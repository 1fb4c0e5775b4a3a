-- The counts in a result, as the definitions' record. Assumes nothing.
use Rattle.greedy.specs.Tally as Tallies
use Rattle.gates.specs.declared.Counts.{Counts}

abbrev pub tally_of : Counts → Tallies.Tally
tally_of c = Tallies.tally c.comparisons c.products c.rounds
