-- `text::digits` meets its contract. Assumes nothing.
use native.Mathlib.Omega.{arith}
use borrow.Author.Rules.{rules}
use Rattle.text.proofs.Decimal.{length_small, length_large, length_wide}
use Rattle.text.proofs.+digits.Goals as goal

pub returns-then-x-gt9 : goal.returns-then-x-gt9
returns-then-x-gt9 t c =
    let x = c.args.x in
    let e = length_large x (omega arith) in
    (omega arith, omega (arith, length_wide x (search rules)))

pub returns-else-x-gt9 : goal.returns-else-x-gt9
returns-else-x-gt9 t c =
    let e = length_small c.args.x (omega arith) in
    (omega arith, omega arith)
