-- How many subsets there are. Assumes nothing.
use Prim.Native.Nat.{ℕ, zero, suc, ◌+◌, ◌-◌, ◌*◌, ◌≤◌}
use mathlib.Core.List.{[]}
use mathlib.Core.Path.{◌≡◌}
use native.Mathlib.Nat.{mul-le-mul}
use native.Mathlib.Omega.{arith}
use Rattle.laws.proofs.Products.{square_le}
use Rattle.exchange.specs.Subsets.{up_to_three, subset_count}
use Rattle.exchange.proofs.Tallied.{tallied}
use Rattle.counting.specs.Counting.{of_size}

-- six times their number, with n, is the cube of n
cubes : (n T P : ℕ) → 6 * T ≡ n * (n - 1) * (n - 2) → 2 * P ≡ n * (n - 1) → 6 * (T + P) + n ≡ n * n * n
cubes zero T P e f = omega arith
cubes (suc zero) T P e f = omega arith
cubes (suc (suc c)) T P e f =
    let p : suc (suc c) - 1 ≡ suc c = omega arith in
    let q : suc (suc c) - 2 ≡ c = omega arith in
    omega (arith, rw (p, q) at e, rw p at f)

pub count_is : (n : ℕ) → subset_count (up_to_three n) ≡ of_size 3 n + of_size 2 n
count_is n = (tallied 0 n (λ i j. 0) (λ i j. 0) []).all

pub six_times_lem : (n : ℕ) → 6 * subset_count (up_to_three n) + n ≡ n * n * n
six_times_lem n =
    let t = tallied 0 n (λ i j. 0) (λ i j. 0) [] in
    omega (arith, cubes n (of_size 3 n) (of_size 2 n) t.triples t.twos, count_is n)

module _ (n : ℕ) (few : n ≤ 200) where
  cube_le : n * n * n ≤ 8000000
  cube_le = mul-le-mul (square_le n few) few

  pub count_le : subset_count (up_to_three n) ≤ 1333333
  count_le = omega (arith, six_times_lem n, cube_le)

  pub twos_le : of_size 2 n ≤ 1333333
  twos_le = omega (arith, count_is n, count_le)
