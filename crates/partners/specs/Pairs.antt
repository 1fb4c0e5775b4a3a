-- "Writer and printout": the lines of a plan's pairs. Assumes nothing.
use Rattle.std.specs.Prelude.{ℕ, cond, ltb, get_or}
use mathlib.Core.List.{List, [], ◌∷◌, flatten}
use Rattle.laws.specs.Below.{table}
use Rattle.text.specs.Text.{bytes_of, decimal, line}

-- the id of pair `who`, "`-` for none": N means none, and so does every number that is no pair's
unfoldable pub partner : ℕ → List ℕ → ℕ → List ℕ
partner n ids who = cond (ltb who n) (decimal (get_or ids who 0)) (bytes_of "-")

-- "its id, its donor's id and its recipient's id"
unfoldable pub pair_line : ℕ → List ℕ → List ℕ → List ℕ → ℕ → List ℕ
pair_line n ids donors recipients i = line (decimal (get_or ids i 0)) (partner n ids (get_or donors i 0) ∷ partner n ids (get_or recipients i 0) ∷ [])

-- "for each pair in order"
unfoldable pub pair_lines : ℕ → List ℕ → List ℕ → List ℕ → List ℕ
pair_lines n ids donors recipients = flatten (table n (pair_line n ids donors recipients))
