-- A shuffle and its inverse: the place of a pair. Assumes nothing.
use Prim.Native.Nat.{ℕ, zero, suc, ◌≤◌, ◌<◌}
use mathlib.Core.Bool.{Bool, true, false, cond}
use mathlib.Core.List.{List, [], ◌∷◌, map}
use mathlib.Core.Path.{◌≡◌, refl, sym, ap₂, ◌∙◌}
use native.Mathlib.Omega.{arith}
use lib.Dec.{eqb}
use lib.ListN.{length, get_or}
use borrow.Author.Tests.{eqb-true, eqb-false}
use Rattle.laws.proofs.Below.{once_below}
use Rattle.pool.specs.Faultless.{EachOnce}
use Rattle.greedy.specs.Promises.{first_at}
use Rattle.greedy.proofs.Counts.{times, AllBelow, one_eq, same, other, same?, below-head, below_tail}
use Rattle.exchange.specs.Subsets.{pairs_at}

-- ---- where a number first stands

first_at-most : (a : ℕ) (s : List ℕ) (k : ℕ) → k < length s → get_or s k 0 ≡ a → first_at a s ≤ k
unfolding first_at
first_at-most a [] k h e = absurd (omega arith)
first_at-most a (x ∷ s) k h e = go (eqb a x) refl k h e (λ j z q. first_at-most a s j z q)
  where
    go : (b : Bool) → eqb a x ≡ b → (k : ℕ) → k < length (x ∷ s) → get_or (x ∷ s) k 0 ≡ a
        → ((j : ℕ) → j < length s → get_or s j 0 ≡ a → first_at a s ≤ j) → cond b 0 (suc (first_at a s)) ≤ k
    go true q k h e ih = omega arith
    go false q zero h e ih = absurd (eqb-false a x q (sym e))
    go false q (suc k) h e ih = omega (arith, ih k (omega arith) e)

first_at_there : (a : ℕ) (s : List ℕ) → first_at a s < length s → get_or s (first_at a s) 0 ≡ a
unfolding first_at
first_at_there a [] h = absurd (omega arith)
first_at_there a (x ∷ s) h = go (eqb a x) refl h (λ z. first_at_there a s z)
  where
    go : (b : Bool) → eqb a x ≡ b → cond b 0 (suc (first_at a s)) < length (x ∷ s) → (first_at a s < length s → get_or s (first_at a s) 0 ≡ a)
        → get_or (x ∷ s) (cond b 0 (suc (first_at a s))) 0 ≡ a
    go true q h ih = sym (eqb-true a x q)
    go false q h ih = ih (omega arith)

-- ---- each of n places holds one of n pairs, and each pair stands at one place

pub record Invertible (n : ℕ) (s : List ℕ) : Type 0 where
  pub pair_below : (p : ℕ) → p < n → get_or s p 0 < n
  pub seat_below : (a : ℕ) → a < n → first_at a s < n
  pub seat_pair : (a : ℕ) → a < n → get_or s (first_at a s) 0 ≡ a
  pub place_seat : (p : ℕ) → p < n → first_at (get_or s p 0) s ≡ p

module _ (n : ℕ) (s : List ℕ) (long : n ≤ length s) (each : EachOnce n (λ j. get_or s j 0)) where
  seat_within : (a : ℕ) → a < n → first_at a s < n
  seat_within a h = let o = each a h in omega (arith, o.below, first_at-most a s o.at (omega (arith, o.below)) o.there)

  seat_there : (a : ℕ) → a < n → get_or s (first_at a s) 0 ≡ a
  seat_there a h = first_at_there a s (omega (arith, seat_within a h))

  within : (p : ℕ) → p < n → get_or s p 0 < n
  within = once_below n (λ j. get_or s j 0) each

  pub invertible : Invertible n s
  invertible = record {
    pair_below = within;
    seat_below = seat_within;
    seat_pair = seat_there;
    place_seat = λ p h.
        let o = each (get_or s p 0) (within p h) in
        o.only (first_at (get_or s p 0) s) (seat_within (get_or s p 0) (within p h)) (seat_there (get_or s p 0) (within p h)) ∙ sym (o.only p h refl);
  }

-- ---- the places of the pairs of a list

abbrev pub seats : List ℕ → List ℕ → List ℕ
seats s c = map (λ (a : ℕ). first_at a s) c

module _ (n : ℕ) (s : List ℕ) (sh : Invertible n s) where
  pub pairs_seats : (c : List ℕ) → AllBelow n c → pairs_at s (seats s c) ≡ c
  unfolding pairs_at
  pairs_seats [] b = refl
  pairs_seats (a ∷ c) b = ap₂ ◌∷◌ (sh.seat_pair a (below-head n a c b)) (pairs_seats c (below_tail n a c b))

  pub seats_below : (c : List ℕ) → AllBelow n c → AllBelow n (seats s c)
  unfolding times
  seats_below [] b p h = refl
  seats_below (a ∷ c) b p h = elim (same? p (first_at a s)) [
    | same e k ↦ absurd (omega (arith, sh.seat_below a (below-head n a c b)))
    | other e k ↦ omega (arith, seats_below c (below_tail n a c b) p h)
  ]

  pub seats_times : (c : List ℕ) → AllBelow n c → (p : ℕ) → times p (seats s c) ≤ times (get_or s p 0) c
  unfolding times
  seats_times [] b p = omega arith
  seats_times (a ∷ c) b p = elim (same? p (first_at a s)) [
    | same e k ↦ let q : get_or s p 0 ≡ a = rw e (sh.seat_pair a (below-head n a c b)) in
        omega (arith, seats_times c (below_tail n a c b) p, one_eq (get_or s p 0) a q)
    | other e k ↦ omega (arith, seats_times c (below_tail n a c b) p)
  ]

  pub pairs_below : (c : List ℕ) → AllBelow n c → AllBelow n (pairs_at s c)
  unfolding times pairs_at
  pairs_below [] b a h = refl
  pairs_below (p ∷ c) b a h = elim (same? a (get_or s p 0)) [
    | same e k ↦ absurd (omega (arith, sh.pair_below p (below-head n p c b)))
    | other e k ↦ omega (arith, pairs_below c (below_tail n p c b) a h)
  ]

  pub pairs_times : (c : List ℕ) → AllBelow n c → (a : ℕ) → times a (pairs_at s c) ≤ times (first_at a s) c
  unfolding times pairs_at
  pairs_times [] b a = omega arith
  pairs_times (p ∷ c) b a = elim (same? a (get_or s p 0)) [
    | same e k ↦ omega (arith, pairs_times c (below_tail n p c b) a, one_eq (first_at a s) p (rw e (sh.place_seat p (below-head n p c b))))
    | other e k ↦ omega (arith, pairs_times c (below_tail n p c b) a)
  ]
