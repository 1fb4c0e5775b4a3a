-- Twos and triples by their size. Assumes nothing.
use Prim.Native.Nat.{ℕ, zero, suc, ◌+◌, ◌-◌, ◌*◌, ◌≤◌, ◌<◌}
use mathlib.Core.Path.{◌≡◌, refl, ap}
use native.Mathlib.Omega.{arith}
use Rattle.exchange.specs.Subsets.{ascending, subsets}
use Rattle.exchange.specs.Promises.{how_many}
use Rattle.exchange.proofs.Counted.{binomial, ones, count_triples, count_twos, twos_are, binomial_mono}
use Rattle.counting.specs.Counting.{of_size}

-- a size is two or three
pub counted : (size m : ℕ) → 2 ≤ size → size ≤ 3 → of_size size m ≡ binomial size m
counted zero m h g = absurd (omega arith)
counted (suc zero) m h g = absurd (omega arith)
counted (suc (suc zero)) m h g = count_twos m
counted (suc (suc (suc zero))) m h g = count_triples m
counted (suc (suc (suc (suc k)))) m h g = absurd (omega arith)

-- none among no places, and no fewer among more
pub none_among : (size : ℕ) → of_size size 0 ≡ 0
unfolding how_many subsets ascending
none_among size = refl

pub more_among : (size m n : ℕ) → 2 ≤ size → size ≤ 3 → m ≤ n → of_size size m ≤ of_size size n
more_among size m n h g l = omega (arith, counted size m h g, counted size n h g, binomial_mono size m n l)

-- ## A place more: it begins a two with each other, and a triple with each two of the others

module _ (m c : ℕ) (e : m ≡ suc c) where
  pub two_more : of_size 2 m ≡ c + of_size 2 c
  unfolding binomial
  two_more = omega (arith, count_twos m, ap (binomial 2) e, count_twos c, ones c)

  pub triple_more : of_size 3 m ≡ of_size 2 c + of_size 3 c
  unfolding binomial
  triple_more = omega (arith, count_triples m, ap (binomial 3) e, count_triples c, count_twos c)

-- ## Twos from the table

pub no_twos : (m : ℕ) → m ≡ 0 → (2 * 0 ≡ m * (m - 1)) × (0 ≡ of_size 2 m)
no_twos zero e = (refl, omega (arith, none_among 2))
no_twos (suc c) e = absurd (omega arith)

-- by the triples among m places and among one fewer
pub twos_by : (m a b : ℕ) → 0 < m → a ≡ of_size 3 m → b ≡ of_size 3 (m - 1) → (2 * (a - b + (m - 1)) ≡ m * (m - 1)) × (a - b + (m - 1) ≡ of_size 2 m)
twos_by m a b h e f =
    let one : m ≡ suc (m - 1) = omega arith in
    let sum : a - b + (m - 1) ≡ of_size 2 m = omega (arith, e, f, two_more m (m - 1) one, triple_more m (m - 1) one) in
    (omega (arith, sum, count_twos m, twos_are m), sum)
