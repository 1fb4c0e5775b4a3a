-- "The printout is decimal", said a second time, as a statement: the proof is in `proofs/Numerals`. Assumes nothing.
use Rattle.std.specs.Prelude.{ℕ, ◌+◌, ◌-◌, ◌*◌, ◌≤◌, ◌<◌, ◌≡◌, List, [], ◌∷◌, length, get_or}
use Prim.Native.Char.{code}
use Rattle.text.specs.Text.{decimal}

-- the number that a text of digits stands for, the highest first, after digits that stand for `higher`
unfoldable pub read_on : ℕ → List ℕ → ℕ
read_on higher [] = higher
read_on higher (c ∷ text) = read_on (higher * 10 + (c - code "0")) text

-- one digit or more, that stand for x, the first of several no zero
pub record Decimal (x : ℕ) (text : List ℕ) : Type 0 where
  pub some : 0 < length text
  pub digits : (i : ℕ) → i < length text → (code "0" ≤ get_or text i 0) × (get_or text i 0 ≤ code "9")
  pub number : read_on 0 text ≡ x
  pub front : 1 < length text → code "0" < get_or text 0 0

-- "The printout is decimal": what is printed of a number is such a text, and there is no other
pub record PrintsDecimal (x : ℕ) : Type 0 where
  pub is : Decimal x (decimal x)
  pub only : (text : List ℕ) → Decimal x text → text ≡ decimal x
