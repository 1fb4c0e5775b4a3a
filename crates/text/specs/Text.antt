-- "Writer and printout": numbers, words and lines, as bytes in ASCII. Assumes nothing.
use Rattle.std.specs.Prelude.{ℕ, zero, suc, ◌+◌, ◌/◌, ◌%◌, cond, ltb}
use Prim.Native.Char.{code}
use Prim.Native.String.{String, [] as []ᵗ, ◌∷◌ as ◌∷ᵗ◌}
use mathlib.Core.List.{List, [], ◌∷◌, ◌++◌, map, flat_map}

-- ## Characters

-- a quoted text's characters by their codes, which below 128 are ASCII's
abbrev pub bytes_of : String → List ℕ
bytes_of []ᵗ = []
bytes_of (c ∷ᵗ text) = code c ∷ bytes_of text

abbrev pub space : ℕ
space = code " "

abbrev pub newline : ℕ
newline = code "\n"

-- ## "The printout is decimal"

abbrev pub digit : ℕ → ℕ
digit d = code "0" + d

-- the digits of x, the highest first, where there are no more than `most`
unfoldable pub digits_within : ℕ → ℕ → List ℕ
digits_within zero x = []
digits_within (suc most) x = cond (ltb x 10) (digit x ∷ []) (digits_within most (x / 10) ++ (digit (x % 10) ∷ []))

-- x in decimal, with no zero in front; x + 1 digits are enough for any x
unfoldable pub decimal : ℕ → List ℕ
decimal x = digits_within (suc x) x

-- ## "One space between, one newline after each line"

-- a word that follows another
abbrev pub following : List ℕ → List ℕ
following word = space ∷ word

unfoldable pub line : List ℕ → List (List ℕ) → List ℕ
line first others = first ++ (flat_map following others ++ (newline ∷ []))

-- a word, and numbers in decimal
abbrev pub number_line : List ℕ → List ℕ → List ℕ
number_line word numbers = line word (map decimal numbers)
