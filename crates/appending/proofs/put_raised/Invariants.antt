-- `appending::put_raised` meets its contract. The loop's invariant: j numbers of two bytes are written from `at` on. Assumes nothing.
use Prim.Native.Nat.{◌+◌}
use Rattle.laws.specs.Digits.{bytes}
use Rattle.laws.proofs.Lent.{Pieces}
use Rattle.pool.specs.Sheet.{shuffle_at}
use Rattle.appending.proofs.put_raised.Given as goal

abbrev pub invariant-loop-j : goal.invariant-loop-j
invariant-loop-j l = Pieces l.at l.j (bytes 2) (λ k. shuffle_at l.sheet l.n k + l.more) l.initial.out l.out
