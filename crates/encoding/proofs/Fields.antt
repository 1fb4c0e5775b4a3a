-- A field of two-byte numbers, of its start and its numbers. Assumes nothing.
use mathlib.Core.Path.{◌≡◌, refl, sym, ap, ◌∙◌}
use mathlib.Core.List.{List, ◌++◌, flat_map}
use Prim.Native.Nat.{ℕ, ◌+◌, ◌*◌, ◌≤◌}
use lib.ListN.{length}
use Rattle.laws.specs.Below.{table}
use Rattle.laws.specs.Digits.{bytes}
use Rattle.laws.specs.Lent.{stored}
use Rattle.laws.proofs.Below.{length-table}
use Rattle.laws.proofs.Lent.{stored_then}
use Rattle.pool.specs.Sheet.{field, numbers_field, start_length}
use Rattle.pool.proofs.Lengths.{length_numbers}

-- the start, with the length 2n, and the n numbers
pub field_pieces : (at tag n : ℕ) (s : ℕ → ℕ) (old mid new : List ℕ) → at + start_length ≤ length old → mid ≡ stored at (bytes 1 tag ++ bytes 2 (2 * n)) old
    → new ≡ stored (at + start_length) (flat_map (bytes 2) (table n s)) mid → new ≡ stored at (numbers_field tag (table n s)) old
unfolding numbers_field field bytes
field_pieces at tag n s old mid new l e f =
    stored_then at start_length _ _ old mid new refl l e f
    ∙ ap (λ (k : ℕ). stored at (bytes 1 tag ++ (bytes 2 k ++ flat_map (bytes 2) (table n s))) old)
    (sym (length_numbers (table n s) ∙ ap (λ (k : ℕ). 2 * k) (length-table n s)))
