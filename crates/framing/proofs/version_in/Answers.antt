-- `framing::version_in` meets its contract: two bytes fit 16 bits. Assumes nothing.
use native.Mathlib.Omega.{arith}
use Rattle.laws.proofs.Digits.{big_endian_lt}
use Rattle.pool.specs.Sheet.{version_place, version_in}
use Rattle.framing.proofs.version_in.Goals as goal

pub overflow_cast-result : goal.overflow_cast-result
overflow_cast-result c = omega (arith, big_endian_lt c.args.b.now version_place 2 (λ j. (c.type_inv.b j).fits))

pub returns : goal.returns
unfolding version_in
returns c = c.number.ensures
