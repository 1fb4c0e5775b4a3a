-- `text::put_line` meets its contract. The invariant: so many numbers are put after the word. Assumes nothing.
use mathlib.Core.List.{flatten}
use Rattle.laws.specs.Below.{table}
use Rattle.text.specs.Put.{Put}
use Rattle.text.proofs.Lines.{following_at}
use Rattle.text.proofs.put_line.Given as goal

abbrev pub invariant-loop-number : goal.invariant-loop-number
invariant-loop-number l = Put l.initial.end (flatten (table l.number-index (following_at l.numbers))) l.initial.out l.out l.end
