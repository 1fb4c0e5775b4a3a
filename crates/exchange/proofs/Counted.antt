-- How many twos and triples there are: binomials. Assumes nothing.
use Prim.Native.Nat.{ℕ, zero, suc, ◌+◌, ◌-◌, ◌*◌, ◌≤◌}
use mathlib.Core.List.{List, [], ◌∷◌, ◌++◌, map}
use mathlib.Core.Path.{◌≡◌, refl, sym, ap, ◌∙◌}
use native.Mathlib.Omega.{arith}
use native.Mathlib.Decide.{dec_le}
use lib.ListN.{length, length-append, length-map}
use borrow.Author.Tests.{eq-eqb, ne_eqb}
use Rattle.laws.specs.Below.{one}
use Rattle.exchange.specs.Subsets.{ascending, subsets}
use Rattle.exchange.specs.Promises.{how_many}
use Rattle.exchange.specs.Rivals.{Each}
use Rattle.exchange.proofs.Ordered.{Sub, ascending_all, each_mono}

-- how many lists of k there are among c
unfoldable pub binomial : ℕ → ℕ → ℕ
binomial zero c = 1
binomial (suc k) zero = 0
binomial (suc k) (suc c) = binomial k c + binomial (suc k) c

pub length-ascending : (k p c : ℕ) → length (ascending k p c) ≡ binomial k c
unfolding ascending binomial
length-ascending zero p c = refl
length-ascending (suc k) p zero = refl
length-ascending (suc k) p (suc c) = omega (
  arith,
  length-append (map (λ (s : List ℕ). p ∷ s) (ascending k (suc p) c)) (ascending (suc k) (suc p) c),
  length-map (ascending k (suc p) c) (λ (s : List ℕ). p ∷ s),
  length-ascending k (suc p) c,
  length-ascending (suc k) (suc p) c,
)

pub ones : (c : ℕ) → binomial 1 c ≡ c
unfolding binomial
ones zero = refl
ones (suc c) = omega (arith, ones c)

pub twos : (c : ℕ) → 2 * binomial 2 c + c ≡ c * c
unfolding binomial
twos zero = refl
twos (suc c) = omega (arith, twos c, ones c)

triples : (c : ℕ) → 6 * binomial 3 c + 3 * (c * c) ≡ c * c * c + 2 * c
unfolding binomial
triples zero = refl
triples (suc c) = omega (arith, triples c, twos c)

how_many-append : (k : ℕ) (ss us : List (List ℕ)) → how_many k (ss ++ us) ≡ how_many k ss + how_many k us
unfolding how_many
how_many-append k [] us = omega arith
how_many-append k (s ∷ ss) us = omega (arith, how_many-append k ss us)

how_many_all : (k : ℕ) (ss : List (List ℕ)) → Each (λ (s : List ℕ). length s ≡ k) ss → how_many k ss ≡ length ss
unfolding how_many one
how_many_all k [] h = refl
how_many_all k (s ∷ ss) h = rw (eq-eqb (length s) k h.0) (omega (arith, how_many_all k ss h.1))

how_many_none : (k j : ℕ) (ss : List (List ℕ)) → (j ≡ k → ⊥) → Each (λ (s : List ℕ). length s ≡ j) ss → how_many k ss ≡ 0
unfolding how_many one
how_many_none k j [] d h = refl
how_many_none k j (s ∷ ss) d h = rw (ne_eqb (length s) k (λ e. d (sym h.0 ∙ e))) (omega (arith, how_many_none k j ss d h.1))

ascending_sized : (k n : ℕ) → Each (λ (s : List ℕ). length s ≡ k) (ascending k 0 n)
ascending_sized k n = each_mono (Sub 0 (0 + n) k) (λ (s : List ℕ). length s ≡ k) (λ s h. h.size) (ascending k 0 n) (ascending_all k 0 n)

pub count_triples : (n : ℕ) → how_many 3 (subsets 3 n) ≡ binomial 3 n
unfolding subsets how_many
count_triples n = omega (
  arith,
  how_many-append 3 (ascending 3 0 n) (ascending 2 0 n ++ []),
  how_many-append 3 (ascending 2 0 n) [],
  how_many_all 3 (ascending 3 0 n) (ascending_sized 3 n),
  how_many_none 3 2 (ascending 2 0 n) (omega arith) (ascending_sized 2 n),
  length-ascending 3 0 n,
)

pub count_twos : (n : ℕ) → how_many 2 (subsets 3 n) ≡ binomial 2 n
unfolding subsets how_many
count_twos n = omega (
  arith,
  how_many-append 2 (ascending 3 0 n) (ascending 2 0 n ++ []),
  how_many-append 2 (ascending 2 0 n) [],
  how_many_none 2 3 (ascending 3 0 n) (omega arith) (ascending_sized 3 n),
  how_many_all 2 (ascending 2 0 n) (ascending_sized 2 n),
  length-ascending 2 0 n,
)

pub twos_are : (n : ℕ) → 2 * binomial 2 n ≡ n * (n - 1)
unfolding binomial
twos_are zero = refl
twos_are (suc c) = let e : suc c - 1 ≡ c = omega arith in rw e (omega (arith, twos (suc c)))

pub triples_are : (n : ℕ) → 6 * binomial 3 n ≡ n * (n - 1) * (n - 2)
unfolding binomial
triples_are zero = refl
triples_are (suc zero) = refl
triples_are (suc (suc c)) =
    let e : suc (suc c) - 1 ≡ suc c = omega arith in
    let d : suc (suc c) - 2 ≡ c = omega arith in
    rw (e, d) (omega (arith, triples (suc (suc c))))

-- more places have no fewer

grows : (k c : ℕ) → binomial k c ≤ binomial k (suc c)
unfolding binomial
grows zero c = omega arith
grows (suc k) c = omega arith

pub binomial_mono : (k c d : ℕ) → c ≤ d → binomial k c ≤ binomial k d
binomial_mono k c zero h = let e : c ≡ 0 = omega arith in omega (arith, ap (binomial k) e)
binomial_mono k c (suc d) h = elim (dec_le c d) [
  | yes l ↦ omega (arith, binomial_mono k c d l, grows k d)
  | no l ↦ let e : c ≡ suc d = omega arith in omega (arith, ap (binomial k) e)
]
