-- `columns::fill` meets its contract. The loop's invariant: the table is filled to i. Assumes nothing.
use Prim.Native.Nat.{◌+◌, ◌*◌}
use Rattle.laws.specs.Digits.{big_endian}
use Rattle.laws.proofs.Lent.{Filling}
use Rattle.columns.proofs.fill.Given as goal

abbrev pub invariant-loop-i : goal.invariant-loop-i
invariant-loop-i g l = Filling l.i (λ i. g.T.Entry.of (big_endian g.T.Entry.BYTES l.b (l.first + l.apart * i))) l.initial.t l.t
