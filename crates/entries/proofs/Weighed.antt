-- What `two` and `three` need, with what they have of the tables. Assumes nothing.
use Prim.Native.Nat.{ℕ, ◌+◌, ◌*◌, ◌^◌, ◌≤◌, ◌<◌}
use mathlib.Core.List.{List, [], ◌∷◌}
use mathlib.Core.Path.{◌≡◌, sym, ◌∙◌}
use native.Mathlib.Omega.{arith}
use lib.ListN.{get_or}
use Rattle.laws.proofs.Products.{bit_times, ones_le}
use Rattle.exchange.specs.Subsets.{entry, weigh}
use Rattle.exchange.proofs.Evaluated.{weigh_two, weigh_three}
use Rattle.entries.specs.Preconditions.{Pairs}
use Rattle.entries.proofs.Bounds.{points_le}

module _ (n : ℕ) (M W : List ℕ) (typed : (i : ℕ) → get_or W i 0 < 2 ^ 16) (a b c : ℕ) (asked : Pairs n M W a b c) where
  one_of : (i j : ℕ) → i < n → j < n → (x : ℕ) → x ≡ entry M n i j → x ≤ 1
  one_of i j h k x e = omega (arith, asked.readable.zero_or_one i j h k)

  pub points_of_lem : (i j x : ℕ) → x ≡ entry W n i j → x ≤ 65535
  points_of_lem i j x e = omega (arith, points_le n M W typed i j)

  module _ (x y : ℕ) (ex : x ≡ entry M n a b) where
    x_le : x ≤ 1
    x_le = one_of a b asked.first asked.second x ex

    -- a two
    module _ (ey : y ≡ entry M n b a) where
      both_le : x * y ≤ 1
      both_le = ones_le x y x_le (one_of b a asked.second asked.first y ey)

      module _ (p : ℕ) (ep : p ≡ x * y) (v w : ℕ) (ev : v ≡ entry W n a b) (ew : w ≡ entry W n b a) where
        pub two_sum : v + w < 2 ^ 64
        two_sum = omega (arith, points_of_lem a b v ev, points_of_lem b a w ew)

        module _ (s : ℕ) (es : s ≡ v + w) where
          pub two_product : p * s < 2 ^ 64
          two_product = omega (arith, bit_times p s (omega (arith, both_le)), points_of_lem a b v ev, points_of_lem b a w ew)

          pub two_is : (r : ℕ) → r ≡ p * s → r ≡ weigh (entry M n) (entry W n) (a ∷ b ∷ [])
          two_is r er = er ∙ (rw (ep, ex, ey, es, ev, ew) (sym (weigh_two (entry M n) (entry W n) a b)))

    -- a triple
    module _ (ey : y ≡ entry M n b c) where
      ab_le : x * y ≤ 1
      ab_le = ones_le x y x_le (one_of b c asked.second asked.third y ey)

      module _ (p : ℕ) (ep : p ≡ x * y) (z : ℕ) (ez : z ≡ entry M n c a) where
        all_le : p * z ≤ 1
        all_le = ones_le p z (omega (arith, ab_le)) (one_of c a asked.third asked.first z ez)

        module _ (q : ℕ) (eq : q ≡ p * z) (u v w : ℕ) (eu : u ≡ entry W n a b) (ev : v ≡ entry W n b c) (ew : w ≡ entry W n c a) where
          pub three_sum : u + v + w ≤ 196605
          three_sum = omega (arith, points_of_lem a b u eu, points_of_lem b c v ev, points_of_lem c a w ew)

          module _ (d : ℕ) (ed : d ≡ u + v) where
            module _ (s : ℕ) (es : s ≡ d + w) where
              pub three_product : q * s < 2 ^ 64
              three_product = omega (arith, bit_times q s (omega (arith, all_le)), three_sum)

              pub three_is : (r : ℕ) → r ≡ q * s → r ≡ weigh (entry M n) (entry W n) (a ∷ b ∷ c ∷ [])
              three_is r er = er ∙ (rw (eq, ep, ex, ey, ez, es, ed, eu, ev, ew) (sym (weigh_three (entry M n) (entry W n) a b c)))
