-- The winner by halves. Assumes nothing.
use Prim.Native.Nat.{ℕ, zero, suc, ◌+◌, ◌-◌, ◌*◌, ◌/◌, ◌≤◌, ◌<◌}
use mathlib.Core.List.{List, [], ◌∷◌}
use mathlib.Core.Path.{◌≡◌, refl, sym, ap, ◌∙◌}
use native.Mathlib.Nat.{not-suc-le-zero, le_of_suc-le-suc, le_refl}
use native.Mathlib.Omega.{arith}
use lib.ListN.{length, get_or, take, drop, length-drop, take-append-drop}
use lib.Seq.{length-take-le, take_all}
use Rattle.greedy.specs.Tally.{Tally, raise}
use Rattle.greedy.specs.Rounds.{Winner, winner, join, by_halves}
use Rattle.greedy.proofs.Choosing.{halves_join}

-- ## The halves of a list of two or more

module _ (ws : List ℕ) where
  pub length-left : length (take (length ws / 2) ws) ≡ length ws / 2
  length-left = length-take-le (length ws / 2) ws (omega arith)

  pub length_right : length (drop (length ws / 2) ws) ≡ length ws - length ws / 2
  length_right = length-drop (length ws / 2) ws

  -- the right half, as a part of a slice
  pub right_is : take (length ws - length ws / 2) (drop (length ws / 2) ws) ≡ drop (length ws / 2) ws
  right_is = take_all (length ws - length ws / 2) (drop (length ws / 2) ws) (omega (arith, length_right))

-- ## The winner of a part

-- the winner of a part whose first number is i
abbrev pub won : ℕ → List ℕ → Tally → Winner
won i ws t = by_halves (length ws) i ws t

pub one_left : (i : ℕ) (ws : List ℕ) (t : Tally) → 0 < length ws → length ws ≤ 1 → winner (get_or ws 0 0) i t ≡ won i ws t
unfolding by_halves
one_left i [] t h g = absurd (not-suc-le-zero h)
one_left i (x ∷ []) t h g = refl
one_left i (x ∷ y ∷ ws) t h g = absurd (not-suc-le-zero (le_of_suc-le-suc g))

pub halved : (i : ℕ) (ws : List ℕ) (t : Tally) → 1 < length ws
    → join (won i (take (length ws / 2) ws) t) (won (i + length ws / 2) (drop (length ws / 2) ws) (won i (take (length ws / 2) ws) t).tally) ≡ won i ws t
halved i ws t h =
    let l : List ℕ = take (length ws / 2) ws in
    let r : List ℕ = drop (length ws / 2) ws in
    ap (λ (k : ℕ). join (won i l t) (won (i + k) r (won i l t).tally)) (sym (length-left ws))
    ∙ sym (halves_join i l r t (omega (arith, length-left ws)) (omega (arith, length_right ws)))
    ∙ ap (λ (zs : List ℕ). won i zs t) (take-append-drop (length ws / 2) ws)

-- ## Its tally: one join less than the part has weights

record Within (i k : ℕ) (t : Tally) (w : Winner) : Type 0 where
  comparisons : w.tally.comparisons ≡ t.comparisons + (k - 1)
  products : w.tally.products ≡ t.products + 5 * (k - 1)

within_join : (i j k : ℕ) (t : Tally) (a b : Winner) → 0 < j → 0 < k → Within i j t a → Within (i + j) k a.tally b → Within i (j + k) t (join a b)
unfolding join raise
within_join i j k t a b hj hk p q = record {
  comparisons = omega (arith, p.comparisons, q.comparisons);
  products = omega (arith, p.products, q.products);
}

within : (k i : ℕ) (ws : List ℕ) (t : Tally) → 0 < length ws → length ws ≤ k → Within i (length ws) t (by_halves k i ws t)
unfolding by_halves
within zero i ws t h g = absurd (omega arith)
within (suc k) i [] t h g = absurd (not-suc-le-zero h)
within (suc k) i (x ∷ []) t h g = record { comparisons = omega arith; products = omega arith }
within (suc k) i (x ∷ y ∷ ws) t h g =
    let zs : List ℕ = x ∷ y ∷ ws in
    let l : List ℕ = take (length zs / 2) zs in
    let r : List ℕ = drop (length zs / 2) zs in
    let a : Winner = by_halves k i l t in
    let p = within k i l t (omega (arith, length-left zs)) (omega (arith, length-left zs)) in
    let q = within k (i + length zs / 2) r a.tally (omega (arith, length_right zs)) (omega (arith, length_right zs)) in
    let e : length l + length r ≡ length zs = omega (arith, length-left zs, length_right zs) in
    rw e at (within_join i (length l) (length r) t a (by_halves k (i + length zs / 2) r a.tally) (omega (arith, length-left zs)) (omega (arith, length_right zs)) p (rw (length-left zs) q))

module _ (i : ℕ) (ws : List ℕ) (t : Tally) (h : 0 < length ws) where
  facts : Within i (length ws) t (won i ws t)
  facts = within (length ws) i ws t h (le_refl (length ws))

  pub won_comparisons : (won i ws t).tally.comparisons ≡ t.comparisons + (length ws - 1)
  won_comparisons = facts.comparisons

  pub won_products : (won i ws t).tally.products ≡ t.products + 5 * (length ws - 1)
  won_products = facts.products
