-- `cursor::number_of` meets its contract. Assumes nothing.
use Prim.Native.Nat.{ℕ, ◌+◌}
use mathlib.Core.Path.{sym, subst}
use native.Mathlib.Omega.{arith}
use Rattle.cursor.proofs.Following.{Numbered}
use Rattle.cursor.proofs.Number.{count_le}
use Rattle.cursor.proofs.Placed.{two_numbered, triple_numbered}
use Rattle.cursor.proofs.number_of.Goals as goal

pub returns-then-w-n : goal.returns-then-w-n
returns-then-w-n c =
    let start = c in
    subst (λ (t : ℕ). Numbered start.args.n start.args.p (t + c.number_of_two.result)) (sym c.triples.ensures.1)
    (two_numbered _ _ start.requires _ c.if-w-n.true c.number_of_two.ensures)

pub overflow_add-result : goal.overflow_add-result
overflow_add-result c =
    let start = c in
    record { fits = omega (arith, (returns-then-w-n c).1, count_le _ start.requires.few) }

pub returns : goal.returns
returns c =
    triple_numbered _ _ c.requires _ _ c.if-w-n.false c.begin_below.ensures c.number_of_two-2.ensures

pub overflow_add-result-2 : goal.overflow_add-result-2
overflow_add-result-2 c =
    let start = c in
    record { fits = omega (arith, (returns c).1, count_le _ start.requires.few) }
