-- `framing::number` meets its contract. The loop's invariant: x is the number in the bytes passed. Assumes nothing.
use mathlib.Core.Path.{◌≡◌}
use Rattle.laws.specs.Digits.{big_endian}
use Rattle.framing.proofs.number.Given as goal

abbrev pub invariant-loop-byte : goal.invariant-loop-byte
invariant-loop-byte l = l.x ≡ big_endian l.byte-index l.b l.at
