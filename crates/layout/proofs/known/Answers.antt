-- `layout::known` meets its contract. Assumes nothing.
use borrow.Author.Tests.{eq-eqb, ne_eqb}
use Rattle.laws.specs.Below.{either}
use Rattle.pool.specs.Points.{known_version}
use Rattle.layout.proofs.known.Goals as goal

pub returns-then-version-eq1 : goal.returns-then-version-eq1
unfolding known_version either
returns-then-version-eq1 c = rw (eq-eqb c.args.version 1 c.if-version-eq1.true)

pub returns-else-version-eq1 : goal.returns-else-version-eq1
unfolding known_version either
returns-else-version-eq1 c = rw (ne_eqb c.args.version 1 c.if-version-eq1.false)
