-- A pair by its fields, and the parts of its value as they are written. Assumes nothing.
use Rattle.std.specs.Prelude.{ℕ, List, ◌++◌}
use Rattle.laws.specs.Digits.{bytes}
use Rattle.pool.specs.Pool.{Pair}

-- a pair by its fields in order
abbrev pub pair_by : ℕ → ℕ → ℕ → ℕ → ℕ → ℕ → ℕ → ℕ → Pair
pair_by a b c d e f g h =
    record {
      id = a;
      donor_blood = b;
      patient_blood = c;
      donor_age = d;
      patient_age = e;
      donor_antigens = f;
      patient_antigens = g;
      patient_antibodies = h;
    }

-- the four numbers of one byte, and the three of eight, in a row
unfoldable pub group_bytes : ℕ → ℕ → ℕ → ℕ → List ℕ
group_bytes a b c d = bytes 1 a ++ (bytes 1 b ++ (bytes 1 c ++ bytes 1 d))

unfoldable pub tissue_bytes : ℕ → ℕ → ℕ → List ℕ
tissue_bytes a b c = bytes 8 a ++ (bytes 8 b ++ bytes 8 c)
