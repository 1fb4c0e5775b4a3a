-- `partners::pairs_fit` meets its contract. The invariant: the lines of i pairs are taken off the room. Assumes nothing.
use Prim.Native.Nat.{◌+◌}
use mathlib.Core.Path.{◌≡◌}
use mathlib.Core.List.{flatten}
use lib.ListN.{length}
use Rattle.laws.specs.Below.{table}
use Rattle.partners.specs.Pairs.{pair_line}
use Rattle.partners.proofs.pairs_fit.Given as goal

abbrev pub invariant-loop-i : goal.invariant-loop-i
invariant-loop-i l = l.used + length (flatten (table l.i (pair_line l.n l.ids l.donors l.recipients))) + l.left ≡ l.room
