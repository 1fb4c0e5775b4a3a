-- `cursor::count` meets its contract. Assumes nothing.
use native.Mathlib.Omega.{arith}
use Rattle.cursor.proofs.Number.{count_is}
use Rattle.cursor.proofs.count.Goals as goal

pub returns : goal.returns
returns c =
    let start = c in
    omega (arith, c.triples.ensures.1, c.twos.ensures.1, count_is start.args.n)
