-- `encoding::put_numbers` meets its contract. The invariant: j numbers of two bytes are written from `at` on. Assumes nothing.
use Rattle.laws.specs.Digits.{bytes}
use Rattle.pool.specs.Tables.{item_in}
use Rattle.laws.proofs.Lent.{Pieces}
use Rattle.encoding.proofs.put_numbers.Given as goal

abbrev pub invariant-loop-j : goal.invariant-loop-j
invariant-loop-j l = Pieces l.at l.j (bytes 2) (item_in l.t) l.initial.out l.out
