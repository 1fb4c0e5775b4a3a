-- "Numbers of several bytes have the high byte first." Assumes nothing.
use Rattle.std.specs.Prelude.{ℕ, zero, suc, ◌+◌, ◌*◌, ◌/◌, ◌%◌, List, [], ◌∷◌, ◌++◌, get_or}

-- the number in the k bytes of b from o on, high byte first
unfoldable pub big_endian : ℕ → List ℕ → ℕ → ℕ
big_endian zero b o = 0
big_endian (suc k) b o = big_endian k b o * 256 + get_or b (o + k) 0

-- the k bytes of x, high byte first
unfoldable pub bytes : ℕ → ℕ → List ℕ
bytes zero x = []
bytes (suc k) x = bytes k (x / 256) ++ (x % 256 ∷ [])
