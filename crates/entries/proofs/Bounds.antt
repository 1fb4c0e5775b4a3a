-- What entries and weights are at most. Assumes nothing.
use Prim.Native.Nat.{ℕ, ◌+◌, ◌*◌, ◌^◌, ◌≤◌, ◌<◌}
use mathlib.Core.List.{List, [], ◌∷◌}
use native.Mathlib.Omega.{arith}
use lib.ListN.{get_or}
use Rattle.laws.proofs.Products.{bit_times, ones_le}
use Rattle.exchange.specs.Subsets.{entry, weigh}
use Rattle.exchange.proofs.Evaluated.{weigh_two, weigh_three}
use Rattle.entries.specs.Preconditions.{Pairs}

module _ (n : ℕ) (M W : List ℕ) (typed : (i : ℕ) → get_or W i 0 < 2 ^ 16) where
  pub points_le : (i j : ℕ) → entry W n i j ≤ 65535
  unfolding entry
  points_le i j = omega (arith, typed (i * n + j))

  module _ (a b c : ℕ) (asked : Pairs n M W a b c) where
    ab : entry M n a b ≤ 1
    ab = asked.readable.zero_or_one a b asked.first asked.second

    pub weigh_two_le : weigh (entry M n) (entry W n) (a ∷ b ∷ []) ≤ 131070
    weigh_two_le =
        let ba = asked.readable.zero_or_one b a asked.second asked.first in
        omega (
          arith,
          weigh_two (entry M n) (entry W n) a b,
          bit_times _ (entry W n a b + entry W n b a) (ones_le _ _ ab ba),
          points_le a b,
          points_le b a,
        )

    pub weigh_three_le : weigh (entry M n) (entry W n) (a ∷ b ∷ c ∷ []) ≤ 196605
    weigh_three_le =
        let bc = asked.readable.zero_or_one b c asked.second asked.third in
        let ca = asked.readable.zero_or_one c a asked.third asked.first in
        omega (
          arith,
          weigh_three (entry M n) (entry W n) a b c,
          bit_times _ (entry W n a b + entry W n b c + entry W n c a) (ones_le _ _ (ones_le _ _ ab bc) ca),
          points_le a b,
          points_le b c,
          points_le c a,
        )
