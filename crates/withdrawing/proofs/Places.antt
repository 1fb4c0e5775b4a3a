-- The place of the first of n ids that is this one, and n where none is. Assumes nothing.
use mathlib.Core.Path.{◌≡◌, refl, sym, ap, ◌∙◌}
use mathlib.Core.Bool.{Bool, true, false, not, cond}
use Prim.Native.Nat.{ℕ, zero, suc, ◌≤◌, ◌<◌}
use native.Mathlib.Omega.{arith}
use borrow.Author.Tests.{eqb-true, eqb-false, eq-eqb}
use lib.Dec.{eqb, ltb}
use lib.ListN.{length, take}
use Rattle.std.specs.List.{position, position_or_len}
use Rattle.std.specs.Prelude.{Some, None}
use Rattle.std.proofs.lemmas.Grind.{common_steps}
use Rattle.std.proofs.lemmas.List.Sums.{prefix_len-le-length, fails_before_first, passes_at_first}
use native.Mathlib.Decide.{dec_lt}
use lib.Seq.{length-take-le, get_or-take}
use Rattle.std.specs.Option.{unwrap_or}
use Rattle.pool.specs.Tables.{item_in}
use mathlib.Core.List.{List}
use Rattle.laws.specs.Below.{any_below}
use Rattle.laws.proofs.Below.{either_false, any_none, none_any, any_hit}
use Rattle.live.specs.Calls.{place_of}
use Rattle.live.proofs.Tables.{place_found}

-- is it the id at j?
abbrev pub same : (ℕ → ℕ) → ℕ → ℕ → Bool
same id x j = eqb (id j) x

pub place_none : (n : ℕ) (id : ℕ → ℕ) (x : ℕ) → any_below n (same id x) ≡ false → place_of n id x ≡ n
unfolding any_below place_of
place_none zero id x e = refl
place_none (suc n) id x e =
    let h = either_false (any_below n (same id x)) (same id x n) e in
    rw (h.0, h.1)

module _ (n : ℕ) (id : ℕ → ℕ) (x : ℕ) where
  -- none before it is this one, and it is
  pub place_at : (a : ℕ) → a < n → any_below a (same id x) ≡ false → id a ≡ x → place_of n id x ≡ a
  place_at a l e h =
      let w = place_found n id x (any_hit n (same id x) a l (eq-eqb _ _ h)) in
      let p = place_of n id x in
      let before : p < a → ⊥ = λ k. eqb-false _ _ (any_none a (same id x) e p k) w.there in
      let past : a < p → ⊥ = λ k. w.first a k h in
      omega arith

  -- one is this one where the place is not n, and else none
  pub place_there : (place_of n id x ≡ n → ⊥) → any_below n (same id x) ≡ true
  place_there h = go (any_below n (same id x)) refl
    where
      go : (t : Bool) → any_below n (same id x) ≡ t → t ≡ true
      go true e = refl
      go false e = absurd (h (place_none n id x e))

  pub none_there : place_of n id x ≡ n → any_below n (same id x) ≡ false
  none_there h = go (any_below n (same id x)) refl
    where
      go : (t : Bool) → any_below n (same id x) ≡ t → t ≡ false
      go true e = absurd (omega (arith, h, (place_found n id x e).below))
      go false e = refl

-- a place that is n where there is none
unwrap_cut : (a n k : ℕ) → k ≡ n → a ≤ n → unwrap_or (cond (ltb a k) (Some a) None) n ≡ a
unwrap_cut a n k e h = grind (arith, common_steps)

-- what the library's search of the first n finds, and n where it finds none
module _ (n : ℕ) (ids : List ℕ) (x : ℕ) (l : n ≤ length ids) where
  abbrev is : ℕ → Bool
  is y = eqb y x

  -- the first that is this one, or n
  abbrev at : ℕ
  at = position_or_len is (take n ids)

  long : length (take n ids) ≡ n
  long = length-take-le n ids l

  at_most : at ≤ n
  at_most = omega (arith, prefix_len-le-length (λ y. not (is y)) (take n ids), long)

  none_before : any_below at (same (item_in ids) x) ≡ false
  none_before =
      none_any at _ (λ k h. ap is (sym (get_or-take n ids k 0 (omega (arith, at_most)))) ∙ fails_before_first is (take n ids) k 0 h)

  at_place : at ≡ place_of n (item_in ids) x
  at_place = go (dec_lt at n)
    where
      go : Dec (at < n) → at ≡ place_of n (item_in ids) x
      go (yes h) =
          let there = passes_at_first is (take n ids) 0 (rw long h) in
          sym (place_at n (item_in ids) x at h none_before (sym (get_or-take n ids at 0 h) ∙ eqb-true _ _ there))
      go (no h) =
          let e : at ≡ n = omega (arith, at_most) in
          e ∙ sym (place_none n (item_in ids) x (ap (λ (k : ℕ). any_below k (same (item_in ids) x)) (sym e) ∙ none_before))

  pub place_first : unwrap_or (position is (take n ids)) n ≡ place_of n (item_in ids) x
  place_first = unwrap_cut at n (length (take n ids)) long at_most ∙ at_place
