-- `cursor::two_at` meets its contract. Assumes nothing.
use mathlib.Core.Path.{refl}
use native.Mathlib.Omega.{arith}
use Rattle.cursor.proofs.Placed.{two_begun}
use Rattle.cursor.proofs.two_at.Goals as goal

pub returns : goal.returns
returns c = (two_begun _ _ _ _ c.lowest-u.ensures c.begin_below-before.ensures, refl)

pub overflow_add-result-2 : goal.overflow_add-result-2
overflow_add-result-2 c = record { fits = omega (arith, c.requires.1, (returns c).0.within) }
