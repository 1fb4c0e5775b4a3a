-- Products of bits, and of numbers with a bound. Assumes nothing.
use Prim.Native.Nat.{ℕ, zero, suc, ◌+◌, ◌*◌, ◌≤◌, ◌<◌}
use native.Mathlib.Nat.{not-suc-le-zero, le_of_suc-le-suc, one-mul, zero-mul, mul-le-mul, mul-le-mul_right, suc-mul}
use native.Mathlib.Omega.{arith}

-- ## A bit times a number

pub bit_times : (bit x : ℕ) → bit ≤ 1 → bit * x ≤ x
bit_times zero x h = omega (arith, zero-mul x)
bit_times (suc zero) x h = omega (arith, one-mul x)
bit_times (suc (suc k)) x h = absurd (not-suc-le-zero (le_of_suc-le-suc h))

pub ones_le : (a b : ℕ) → a ≤ 1 → b ≤ 1 → a * b ≤ 1
ones_le a b h k = omega (arith, bit_times a b h)

-- ## An entry of a table of n rows of n, for at most 200 pairs

pub row : (n i j : ℕ) → i < n → j < n → i * n + j < n * n
row n i j h k = omega (arith, mul-le-mul_right n h, suc-mul i n)

pub square_le : (n : ℕ) → n ≤ 200 → n * n ≤ 40000
square_le n few = mul-le-mul few few

-- where it stands, and where that of the other way round does
pub cell : (n i j : ℕ) → i < n → j < n → n ≤ 200 → (i * n + j < n * n) × (j * n + i < n * n) × (n * n ≤ 40000)
cell n i j h k few = (row n i j h k, row n j i k h, square_le n few)
