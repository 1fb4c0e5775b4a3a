-- Choosing by halves gives the lowest-numbered subset of greatest weight, and its tally. Assumes nothing.
use Prim.Native.Nat.{ℕ, zero, suc, ◌+◌, ◌-◌, ◌*◌, ◌/◌, ◌≤◌, ◌<◌}
use mathlib.Core.Bool.{Bool, true, false, cond}
use mathlib.Core.List.{List, [], ◌∷◌, ◌++◌}
use mathlib.Core.Logic.{◌⊎◌, inl, inr}
use mathlib.Core.Path.{◌≡◌, refl, sym, ap, ◌∙◌}
use native.Mathlib.Omega.{arith}
use native.Mathlib.Decide.{dec_lt}
use lib.Dec.{ltb}
use lib.ListN.{length, get_or, take, drop, length-append, length-drop, take-append-drop, get_or-append}
use lib.Seq.{get_or-append-add, length-take-le}
use borrow.Author.Tests.{ltb-true, ltb-false, eq-eqb, ne_eqb}
use Rattle.greedy.specs.Tally.{Tally, raise}
use Rattle.greedy.specs.Promises.{first_at, HalvesGiveTheChoice, greatest, choice}
use Rattle.greedy.specs.Rounds.{Winner, winner, join, by_halves, choosing}

-- ---- the first greatest

-- i is the number of the first greatest of xs, and x its weight
pub record First (xs : List ℕ) (x i : ℕ) : Type 0 where
  pub within : i < length xs
  pub there : get_or xs i 0 ≡ x
  pub most : (j : ℕ) → get_or xs j 0 ≤ x
  pub first : (j : ℕ) → j < i → get_or xs j 0 < x

first_one : (x : ℕ) → First (x ∷ []) x 0
first_one x = record { within = omega arith; there = refl; most = λ j. go j; first = λ j h. omega arith }
  where
    go : (j : ℕ) → get_or (x ∷ []) j 0 ≤ x
    go zero = omega arith
    go (suc j) = omega arith

-- an element of two lists joined
at_append : (xs ys : List ℕ) (j : ℕ) → ((j < length xs) × (get_or (xs ++ ys) j 0 ≡ get_or xs j 0)) ⊎ ((length xs ≤ j) × (get_or (xs ++ ys) j 0 ≡ get_or ys (j - length xs) 0))
at_append xs ys j = elim (dec_lt j (length xs)) [
  | yes h ↦ inl (h, get_or-append xs ys 0 j h)
  | no h ↦ let e : j ≡ length xs + (j - length xs) = omega arith in
      inr (omega arith, ap (λ (k : ℕ). get_or (xs ++ ys) k 0) e ∙ get_or-append-add xs ys (j - length xs) 0)
]

-- the winner of two parts, the left on a tie
first_join : (xs ys : List ℕ) (x i y k : ℕ) → First xs x i → First ys y k
    → First (xs ++ ys) (cond (ltb x y) y x) (cond (ltb x y) (length xs + k) i)
first_join xs ys x i y k h g = go (ltb x y) refl
  where
    go : (t : Bool) → ltb x y ≡ t → First (xs ++ ys) (cond t y x) (cond t (length xs + k) i)
    go true e = record {
      within = omega (arith, length-append xs ys, g.within);
      there = get_or-append-add xs ys k 0 ∙ g.there;
      most = λ j. elim (at_append xs ys j) [
        | inl q ↦ omega (arith, ltb-true x y e, h.most j)
        | inr q ↦ omega (arith, g.most (j - length xs))
      ];
      first = λ j z. elim (at_append xs ys j) [
        | inl q ↦ omega (arith, ltb-true x y e, h.most j)
        | inr q ↦ omega (arith, g.first (j - length xs) (omega arith))
      ];
    }
    go false e = record {
      within = omega (arith, length-append xs ys, h.within);
      there = get_or-append xs ys 0 i h.within ∙ h.there;
      most = λ j. elim (at_append xs ys j) [
        | inl q ↦ omega (arith, h.most j)
        | inr q ↦ omega (arith, ltb-false x y e, g.most (j - length xs))
      ];
      first = λ j z. elim (at_append xs ys j) [
        | inl q ↦ omega (arith, h.first j z)
        | inr q ↦ omega (arith, h.within)
      ];
    }

-- ---- what `greatest` and `first_at` are

first_greatest : (xs : List ℕ) (x i : ℕ) → First xs x i → greatest xs ≡ x
unfolding greatest
first_greatest [] x i h = absurd (omega (arith, h.within))
first_greatest (y ∷ xs) x zero h = omega (arith, h.there, below xs (λ j. h.most (suc j)))
  where
    below : (zs : List ℕ) → ((j : ℕ) → get_or zs j 0 ≤ x) → greatest zs ≤ x
    below [] k = omega arith
    below (z ∷ zs) k = omega (arith, k 0, below zs (λ j. k (suc j)))
first_greatest (y ∷ xs) x (suc i) h =
    let k : First xs x i = record { within = omega (arith, h.within); there = h.there; most = λ j. h.most (suc j); first = λ j z. h.first (suc j) (omega arith) } in
    omega (arith, first_greatest xs x i k, h.most 0)

first_at_lem : (xs : List ℕ) (x i : ℕ) → First xs x i → first_at x xs ≡ i
unfolding first_at
first_at_lem [] x i h = absurd (omega (arith, h.within))
first_at_lem (y ∷ xs) x zero h = rw (eq-eqb x y (sym h.there))
first_at_lem (y ∷ xs) x (suc i) h =
    let k : First xs x i = record { within = omega (arith, h.within); there = h.there; most = λ j. h.most (suc j); first = λ j z. h.first (suc j) (omega arith) } in
    rw (ne_eqb x y (λ e. omega (arith, h.first 0 (omega arith)))) (ap suc (first_at_lem xs x i k))

-- ---- choosing by halves

pub same_tally : (a b : Tally) → a.comparisons ≡ b.comparisons → a.products ≡ b.products → a.rounds ≡ b.rounds → a ≡ b
same_tally a b p q r = λ i. record { comparisons = p i; products = q i; rounds = r i }

-- what a part's winner is: `at` is its number within the part
record Won (xs : List ℕ) (i : ℕ) (t : Tally) (w : Winner) : Type 0 where
  at : ℕ
  number : w.number ≡ i + at
  first : First xs w.weight at
  tally : w.tally ≡ raise (length xs - 1) (5 * (length xs - 1)) t

won_one : (x i : ℕ) (t : Tally) → Won (x ∷ []) i t (winner x i t)
unfolding raise
won_one x i t = record { at = 0; number = omega arith; first = first_one x; tally = same_tally _ _ (omega arith) (omega arith) refl }

won_join : (xs ys : List ℕ) (i : ℕ) (t : Tally) (a b : Winner) → Won xs i t a → Won ys (i + length xs) a.tally b → Won (xs ++ ys) i t (join a b)
unfolding join raise
won_join xs ys i t a b h g =
    let hx : 0 < length xs = omega (arith, h.first.within) in
    let gy : 0 < length ys = omega (arith, g.first.within) in
    record {
      at = cond (ltb a.weight b.weight) (length xs + g.at) h.at;
      number = go (ltb a.weight b.weight);
      first = first_join xs ys a.weight h.at b.weight g.at h.first g.first;
      tally = same_tally _ _
          (omega (arith, length-append xs ys, ap (λ (u : Tally). u.comparisons) h.tally, ap (λ (u : Tally). u.comparisons) g.tally))
          (omega (arith, length-append xs ys, ap (λ (u : Tally). u.products) h.tally, ap (λ (u : Tally). u.products) g.tally))
          (ap (λ (u : Tally). u.rounds) g.tally ∙ ap (λ (u : Tally). u.rounds) h.tally);
    }
  where
    go : (z : Bool) → cond z b.number a.number ≡ i + cond z (length xs + g.at) h.at
    go true = omega (arith, g.number)
    go false = h.number

won_halves : (zs : List ℕ) (half i : ℕ) (t : Tally) (a b : Winner) → half ≤ length zs → Won (take half zs) i t a
    → Won (drop half zs) (i + half) a.tally b → Won zs i t (join a b)
won_halves zs half i t a b e h g =
    let lo : length (take half zs) ≡ half = length-take-le half zs e in
    rw take-append-drop at (won_join (take half zs) (drop half zs) i t a b h (rw lo g))

-- there is one winner only
won_same : (xs : List ℕ) (i : ℕ) (t : Tally) (v w : Winner) → Won xs i t v → Won xs i t w → v ≡ w
won_same xs i t v w h g =
    let x : v.weight ≡ w.weight = sym (first_greatest xs v.weight h.at h.first) ∙ first_greatest xs w.weight g.at g.first in
    let a : h.at ≡ g.at = sym (first_at_lem xs v.weight h.at h.first) ∙ ap (λ (z : ℕ). first_at z xs) x ∙ first_at_lem xs w.weight g.at g.first in
    let n : v.number ≡ w.number = omega (arith, h.number, g.number) in
    let e : v.tally ≡ w.tally = h.tally ∙ sym g.tally in
    λ j. record { weight = x j; number = n j; tally = e j }

-- a half of two or more is neither empty nor all of them
module _ (x y : ℕ) (ws : List ℕ) where
  half : ℕ
  half = length (x ∷ y ∷ ws) / 2

  half_less : half ≤ length (x ∷ y ∷ ws)
  unfolding half
  half_less = omega arith

  left_some : 0 < length (take half (x ∷ y ∷ ws))
  unfolding half
  left_some = rw (length-take-le half (x ∷ y ∷ ws) half_less) (omega arith)

  left_less : (k : ℕ) → length (x ∷ y ∷ ws) ≤ suc k → length (take half (x ∷ y ∷ ws)) ≤ k
  unfolding half
  left_less k h = rw (length-take-le half (x ∷ y ∷ ws) half_less) (omega arith)

  right_some : 0 < length (drop half (x ∷ y ∷ ws))
  unfolding half
  right_some = rw (length-drop half (x ∷ y ∷ ws)) (omega arith)

  right_less : (k : ℕ) → length (x ∷ y ∷ ws) ≤ suc k → length (drop half (x ∷ y ∷ ws)) ≤ k
  unfolding half
  right_less k h = rw (length-drop half (x ∷ y ∷ ws)) (omega arith)

halves_won : (k i : ℕ) (xs : List ℕ) (t : Tally) → 0 < length xs → length xs ≤ k → Won xs i t (by_halves k i xs t)
unfolding by_halves half
halves_won zero i xs t h g = absurd (omega arith)
halves_won (suc k) i [] t h g = absurd (omega arith)
halves_won (suc k) i (x ∷ []) t h g = won_one x i t
halves_won (suc k) i (x ∷ y ∷ ws) t h g = won_halves (x ∷ y ∷ ws) (half x y ws) i t _ _ (half_less x y ws)
    (halves_won k i (take (half x y ws) (x ∷ y ∷ ws)) t (left_some x y ws) (left_less x y ws k g))
    (halves_won k (i + half x y ws) (drop (half x y ws) (x ∷ y ∷ ws)) (by_halves k i (take (half x y ws) (x ∷ y ∷ ws)) t).tally (right_some x y ws) (right_less x y ws k g))

-- ---- so the greatest of a list stands where `first_at` says, and choosing gives the choice

first_same : (xs : List ℕ) (x i : ℕ) → First xs x i → First xs (greatest xs) (first_at (greatest xs) xs)
first_same xs x i h = rw (first_greatest xs x i h, first_at_lem xs x i h) h

pub greatest_first : (xs : List ℕ) → 0 < length xs → First xs (greatest xs) (first_at (greatest xs) xs)
greatest_first xs h = let r = halves_won (length xs) 0 xs (record { comparisons = 0; products = 0; rounds = 0 }) h (omega arith) in
    first_same xs _ r.at r.first

won_choice : (f n : ℕ) (xs : List ℕ) (t : Tally) (b : Winner) → Won xs 0 t b
    → cond (ltb f b.weight) b.number n ≡ cond (ltb f (greatest xs)) (first_at (greatest xs) xs) n
won_choice f n xs t b h =
    let e : b.number ≡ h.at = omega (arith, h.number) in
    rw (first_greatest xs b.weight h.at h.first, first_at_lem xs b.weight h.at h.first, e)

pub choosing_number : HalvesGiveTheChoice
unfolding choosing choice by_halves greatest first_at
choosing_number f ss [] t = refl
choosing_number f ss (x ∷ ws) t =
    won_choice f (length ss) (x ∷ ws) t (by_halves (length (x ∷ ws)) 0 (x ∷ ws) t)
    (halves_won (length (x ∷ ws)) 0 (x ∷ ws) t (omega arith) (omega arith))

pub choosing-tally : (f : ℕ) (ss : List (List ℕ)) (ws : List ℕ) (t : Tally) → 0 < length ws
    → (choosing f ss ws t).tally ≡ raise (length ws) (5 * length ws - 1) t
unfolding choosing raise
choosing-tally f ss ws t h =
    let r = halves_won (length ws) 0 ws t h (omega arith) in
    same_tally _ _
    (omega (arith, ap (λ (u : Tally). u.comparisons) r.tally))
    (omega (arith, ap (λ (u : Tally). u.products) r.tally))
    (ap (λ (u : Tally). u.rounds) r.tally)

-- ---- what a recursion over parts of a table is proved against

-- any first argument that is large enough gives the same winner
pub halves_same : (k i : ℕ) (xs : List ℕ) (t : Tally) → 0 < length xs → length xs ≤ k → by_halves k i xs t ≡ by_halves (length xs) i xs t
halves_same k i xs t h g = won_same xs i t _ _ (halves_won k i xs t h g) (halves_won (length xs) i xs t h (omega arith))

-- the winner of two parts that are not empty is the two winners' join
pub halves_join : (i : ℕ) (xs ys : List ℕ) (t : Tally) → 0 < length xs → 0 < length ys
    → by_halves (length (xs ++ ys)) i (xs ++ ys) t
    ≡ join (by_halves (length xs) i xs t) (by_halves (length ys) (i + length xs) ys (by_halves (length xs) i xs t).tally)
halves_join i xs ys t h g =
    let a : Winner = by_halves (length xs) i xs t in
    let b : Winner = by_halves (length ys) (i + length xs) ys a.tally in
    let both : Won (xs ++ ys) i t (join a b) = won_join xs ys i t a b (halves_won (length xs) i xs t h (omega arith)) (halves_won (length ys) (i + length xs) ys a.tally g (omega arith)) in
    let whole = halves_won (length (xs ++ ys)) i (xs ++ ys) t (omega (arith, length-append xs ys)) (omega arith) in
    won_same (xs ++ ys) i t _ _ whole both
