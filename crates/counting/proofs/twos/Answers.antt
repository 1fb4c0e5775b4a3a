-- `counting::twos` meets its contract. Assumes nothing.
use native.Mathlib.Omega.{arith}
use Rattle.counting.proofs.Sized.{no_twos, twos_by}
use Rattle.counting.proofs.twos.Goals as goal

pub returns-then-m-eq0 : goal.returns-then-m-eq0
returns-then-m-eq0 c = no_twos _ c.if-m-eq0.true

pub returns : goal.returns
returns c =
    twos_by _ _ _ (omega (arith, c.if-m-eq0.false)) c.triples.ensures.1 c.triples-2.ensures.1
