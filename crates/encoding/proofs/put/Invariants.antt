-- `encoding::put` meets its contract. The invariant: the bytes from i on are written, and `left` is what is still to be written. Assumes nothing.
use mathlib.Core.Path.{◌≡◌}
use Rattle.laws.specs.Digits.{bytes}
use Rattle.laws.specs.Lent.{stored}
use Rattle.encoding.proofs.put.Given as goal

-- stored over what is there, it gives the whole number over what there was
abbrev pub invariant-loop-i : goal.invariant-loop-i
invariant-loop-i l = stored l.at (bytes l.i l.left) l.out ≡ stored l.at (bytes l.k l.x) l.initial.out
