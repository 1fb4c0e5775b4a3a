-- `text::line_length` meets its contract. The invariant: so many numbers are counted after the word, each of at most 20 digits. Assumes nothing.
use Prim.Native.Nat.{◌+◌, ◌*◌, ◌≤◌}
use mathlib.Core.Path.{◌≡◌}
use mathlib.Core.List.{flatten}
use lib.ListN.{length}
use Rattle.laws.specs.Below.{table}
use Rattle.text.proofs.Lines.{following_at}
use Rattle.text.proofs.line_length.Given as goal

abbrev pub invariant-loop-number : goal.invariant-loop-number
invariant-loop-number l =
    record {
      counted : l.length ≡ length l.word + length (flatten (table l.number-index (following_at l.numbers)));
      few : l.length ≤ length l.word + l.number-index * 21;
    }
