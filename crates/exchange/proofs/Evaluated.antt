-- What evaluation of a two and of a triple computes. Assumes nothing.
use Prim.Native.Nat.{ℕ, ◌+◌, ◌*◌}
use mathlib.Core.List.{List, [], ◌∷◌, ◌++◌}
use mathlib.Core.Path.{◌≡◌, refl}
use native.Mathlib.Omega.{arith}
use native.Mathlib.Nat.{mul-one, mul_assoc}
use Rattle.greedy.specs.Tally.{Tally}
use Rattle.exchange.specs.Subsets.{along, edges, product_of, sum_of, weigh, evaluation_tally}
use Rattle.exchange.specs.Published.{WeighTwo, WeighThree}

pub weigh_two : WeighTwo
unfolding weigh edges along product_of sum_of
weigh_two m w a b = let e : w a b + (w b a + 0) ≡ w a b + w b a = omega arith in rw (e, mul-one)

pub weigh_three : WeighThree
unfolding weigh edges along product_of sum_of
weigh_three m w a b c =
    let e : w a b + (w b c + (w c a + 0)) ≡ w a b + w b c + w c a = omega arith in
    let d : m a b * (m b c * (m c a * 1)) ≡ m a b * m b c * m c a = rw (mul-one, mul_assoc) in
    rw (e, d)

-- the tally of one subset more
pub evaluating_append : (ss us : List (List ℕ)) (t : Tally) → evaluation_tally (ss ++ us) t ≡ evaluation_tally us (evaluation_tally ss t)
unfolding evaluation_tally
evaluating_append [] us t = refl
evaluating_append (s ∷ ss) us t = evaluating_append ss us _
