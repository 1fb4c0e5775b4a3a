-- `partners::put_pairs` meets its contract. The invariant: the lines of i pairs are put. Assumes nothing.
use mathlib.Core.List.{flatten}
use Rattle.laws.specs.Below.{table}
use Rattle.partners.specs.Pairs.{pair_line}
use Rattle.text.specs.Put.{Put}
use Rattle.partners.proofs.put_pairs.Given as goal

abbrev pub invariant-loop-i : goal.invariant-loop-i
invariant-loop-i l = Put l.at (flatten (table l.i (pair_line l.n l.ids l.donors l.recipients))) l.initial.out l.out l.end
