-- `cursor::triple_at` meets its contract. Assumes nothing.
use native.Mathlib.Omega.{arith}
use borrow.Author.Rules.{rules}
use Rattle.cursor.proofs.Placed.{others_below, triple_placed}
use Rattle.cursor.proofs.triple_at.Goals as goal

pub two_at-others-requires : goal.two_at-others-requires
two_at-others-requires c = (search rules, search rules, others_below _ _ _ _ c.lowest-u.ensures c.begin_below-before.ensures)

pub returns : goal.returns
returns c =
    let found = c.lowest-u.ensures in
    triple_placed _ c.requires.1 _ _ _ _ _ found.within c.two_at-others.ensures.0 (omega (arith, c.begin_below-before.ensures, found.reached))
