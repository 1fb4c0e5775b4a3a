-- The code's struct of six points, as the definitions have them. Assumes nothing.
use Rattle.pool.specs.Points.{Points}
use Rattle.points.specs.declared.Points.{Points as Struct}

abbrev pub named : Struct → Points
named p =
    record {
      base = p.base;
      no_mismatch = p.none;
      few_mismatches = p.few;
      some_mismatches = p.some;
      equal_ages = p.equal;
      young_to_senior = p.young_to_senior;
    }
