-- `text::line_length` meets its contract. Assumes nothing.
use Prim.Native.Nat.{ℕ}
use mathlib.Core.Path.{◌≡◌, ap}
use mathlib.Core.List.{flatten}
use native.Mathlib.Omega.{arith}
use lib.ListN.{length}
use Rattle.laws.specs.Below.{table}
use Rattle.text.proofs.Lines.{following_at, length_none, length_texts, length-line}
use Rattle.text.proofs.line_length.Goals as goal

pub loop-number-init : goal.loop-number-init
loop-number-init c = record { counted = omega (arith, length_none (following_at c.args.numbers.now)); few = omega arith }

pub loop-number-preserved : goal.loop-number-preserved
loop-number-preserved c =
    let e = length_texts (following_at c.args.numbers.now) c.loop-number.number-index in
    record { counted = omega arith; few = omega arith }

pub returns : goal.returns
returns c =
    let e : c.loop-number.number-index ≡ length c.args.numbers.now = omega arith in
    let f = ap (λ (i : ℕ). length (flatten (table i (following_at c.args.numbers.now)))) e in
    let g = length-line c.args.word.now c.args.numbers.now in
    (omega arith, omega arith)
