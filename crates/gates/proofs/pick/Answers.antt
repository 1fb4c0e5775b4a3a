-- `gates::pick` meets its contract. Assumes nothing.
use native.Mathlib.Omega.{arith}
use borrow.Author.Rules.{rules}
use Rattle.gates.specs.Secrets.{value_of}
use Rattle.gates.proofs.Picked.{value_fits, value_is, not_negative}
use Rattle.gates.proofs.pick.Goals as goal

pub overflow_cast-made : goal.overflow_cast-made
overflow_cast-made c =
    let s = c in (
      not_negative (value_of s.args.bit) (value_of s.args.a) (value_of s.args.b) s.requires.0 (omega arith) (omega arith),
      value_fits (value_of s.args.bit) (value_of s.args.a) (value_of s.args.b) s.requires.0 (omega arith) (omega arith),
    )

pub returns : goal.returns
returns c =
    let s = c in (
      value_is (value_of s.args.bit) (value_of s.args.a) (value_of s.args.b) s.requires.0 (omega arith) (omega arith),
      search rules,
    )
