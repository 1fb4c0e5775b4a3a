-- A cursor's number, and the next. Assumes nothing.
use Prim.Native.Nat.{ℕ, zero, suc, ◌+◌, ◌≤◌, ◌<◌}
use mathlib.Core.Bool.{Bool, true, false, cond}
use mathlib.Core.List.{List, [], ◌∷◌}
use mathlib.Core.Path.{◌≡◌, refl, sym, ap, ◌∙◌}
use native.Mathlib.Omega.{arith}
use native.Mathlib.Decide.{ℕ_discrete}
use borrow.Author.Tests.{eq-eqb, eqb-true}
use lib.Dec.{eqb}
use lib.ListN.{length, get_or}
use Rattle.exchange.specs.Subsets.{up_to_three, order, subset_count}
use Rattle.exchange.specs.Published.{Rising, Before, here, there, Precedes, larger, earlier, Sorted}
use Rattle.exchange.specs.Rivals.{Each}
use Rattle.exchange.proofs.Ordered.{mem_at}
use Rattle.exchange.proofs.Published.{published}
use Rattle.cursor.specs.Cursor.{OnSubset, places, places_of, places_at, stands_at, number_in, next_places, subset_at}
use Rattle.cursor.specs.Promises.{BothWays}
use Rattle.cursor.specs.declared.Places.{Places}
use Rattle.cursor.proofs.Order.{next_of, is_subset, follows}
use Rattle.cursor.proofs.Standing.{stands, range_two, range_triple}

-- ## Where a cursor stands

stands_there : (n : ℕ) (s : List ℕ) → stands_at n (places_of n s) s ≡ true
unfolding stands_at places_of
stands_there n s =
    rw (eq-eqb (get_or s 0 n) (get_or s 0 n) refl, eq-eqb (get_or s 1 n) (get_or s 1 n) refl, eq-eqb (get_or s 2 n) (get_or s 2 n) refl)

there_stands : (n : ℕ) (p : Places) (s : List ℕ) → stands_at n p s ≡ true → p ≡ places_of n s
unfolding stands_at places_of
there_stands n p s e = go (eqb p.u (get_or s 0 n)) (eqb p.v (get_or s 1 n)) refl refl e
  where
    go : (a b : Bool) → eqb p.u (get_or s 0 n) ≡ a → eqb p.v (get_or s 1 n) ≡ b
        → cond a (cond b (eqb p.w (get_or s 2 n)) false) false ≡ true → p ≡ places (get_or s 0 n) (get_or s 1 n) (get_or s 2 n)
    go true true x y z =
        let u = eqb-true p.u (get_or s 0 n) x in
        let v = eqb-true p.v (get_or s 1 n) y in
        let w = eqb-true p.w (get_or s 2 n) z in
        λ i. places (u i) (v i) (w i)
    go true false x y z = let k : ◌≡◌ {A = ℕ} 0 1 = cc in absurd (omega arith)
    go false b x y z = let k : ◌≡◌ {A = ℕ} 0 1 = cc in absurd (omega arith)

-- the k-th of a list has number k, where no earlier one has the same places
number_is : (n : ℕ) (ss : List (List ℕ)) (k : ℕ) → k < length ss
    → ((i : ℕ) → i < k → places_of n (get_or ss k []) ≡ places_of n (get_or ss i []) → ⊥) → number_in n ss (places_of n (get_or ss k [])) ≡ k
unfolding number_in
number_is n [] k h d = absurd (omega arith)
number_is n (s ∷ ss) zero h d = rw (stands_there n s)
number_is n (s ∷ ss) (suc k) h d = go (stands_at n (places_of n (get_or ss k [])) s) refl (number_is n ss k (omega arith) (λ i z. d (suc i) (omega arith)))
  where
    go : (b : Bool) → stands_at n (places_of n (get_or ss k [])) s ≡ b → number_in n ss (places_of n (get_or ss k [])) ≡ k
        → cond b 0 (suc (number_in n ss (places_of n (get_or ss k [])))) ≡ suc k
    go true e ih = absurd (d 0 (omega arith) (there_stands n (places_of n (get_or ss k [])) s e))
    go false e ih = ap suc ih

-- ## No two subsets have the same places

before_apart : (s t : List ℕ) → Before s t → s ≡ t → ⊥
before_apart (p ∷ s) [] h e = elim h [ ]
before_apart [] t h e = elim h [ ]
before_apart (p ∷ s) (q ∷ t) (here h) e = let k : p ≡ q = cc in omega arith
before_apart (p ∷ s) (q ∷ t) (there h) e = let k : s ≡ t = cc in before_apart s t h k

precedes_itself : (s : List ℕ) → Precedes s s → ⊥
precedes_itself s (larger h) = omega arith
precedes_itself s (earlier e h) = before_apart s s h refl

each_at : (P : List ℕ → Type 0) (ss : List (List ℕ)) → Each P ss → (k : ℕ) → k < length ss → P (get_or ss k [])
each_at P [] h k z = absurd (omega arith)
each_at P (s ∷ ss) h zero z = h.0
each_at P (s ∷ ss) h (suc k) z = each_at P ss h.1 k (omega arith)

sorted_at : (ss : List (List ℕ)) → Sorted ss → (i k : ℕ) → i < k → k < length ss → Precedes (get_or ss i []) (get_or ss k [])
sorted_at [] h i k z y = absurd (omega arith)
sorted_at (s ∷ ss) h i zero z y = absurd (omega arith)
sorted_at (s ∷ ss) h zero (suc k) z y = each_at (Precedes s) ss h.0 k (omega arith)
sorted_at (s ∷ ss) h (suc i) (suc k) z y = sorted_at ss h.1 i k (omega arith) (omega arith)

module _ (n : ℕ) (few : n ≤ 200) where
  abbrev ss : List (List ℕ)
  ss = order (up_to_three n)

  apart : (i k : ℕ) → i < k → k < length ss → places_of n (get_or ss k []) ≡ places_of n (get_or ss i []) → ⊥
  apart i k h z e =
      let same : get_or ss k [] ≡ get_or ss i [] =
      sym (stands n (get_or ss k []) (is_subset n k few z)) ∙ ap (subset_at n) e ∙ stands n (get_or ss i []) (is_subset n i few (omega arith)) in
      precedes_itself (get_or ss i []) (rw same at (sorted_at ss (published 3 n).sorted i k h z))

  number_at : (k : ℕ) → k < subset_count (up_to_three n) → number_in n ss (places_at (up_to_three n) k) ≡ k
  unfolding places_at
  number_at k h = number_is n ss k h (λ i z. apart i k z h)

  -- the cursor at number k goes on to the next
  pub goes_on : (k : ℕ) → k < subset_count (up_to_three n) → (p : Places) → p ≡ places_at (up_to_three n) k → next_places (up_to_three n) p ≡ places_at (up_to_three n) (k + 1)
  unfolding next_places
  goes_on k h p e = ap (λ (j : ℕ). places_at (up_to_three n) (j + 1)) (ap (number_in n ss) e ∙ number_at k h)

-- ## A cursor in range stands at some subset

-- a cursor's number
abbrev pub Numbered : ℕ → Places → ℕ → Type 0
Numbered n p k = (k ≡ number_in n (order (up_to_three n)) p) × (k < subset_count (up_to_three n)) × (get_or (order (up_to_three n)) k [] ≡ subset_at n p)

module _ (n : ℕ) (p : Places) (range : OnSubset n p) where
  -- its subset, with the cursor at it
  record Stood : Type 0 where
    rising : Rising n (subset_at n p)
    least : 2 ≤ length (subset_at n p)
    most : length (subset_at n p) ≤ 3
    back : p ≡ places_of n (subset_at n p)

  stood : Stood
  unfolding places_of
  stood = elim (ℕ_discrete p.w n) [
    | yes e ↦ let s = range_two n p range e in
        record {
          rising = rw s (range.uv, omega (arith, range.vw));
          least = rw s (omega arith);
          most = rw s (omega arith);
          back = rw s (λ i. places p.u p.v (e i));
        }
    | no e ↦ let s = range_triple n p range e in
        record {
          rising = rw s (range.uv, (range.vw, omega (arith, range.wn)));
          least = rw s (omega arith);
          most = rw s (omega arith);
          back = rw s refl;
        }
  ]

  -- it stands at the number of its subset
  pub placed : (k : ℕ) → get_or (order (up_to_three n)) k [] ≡ subset_at n p → p ≡ places_at (up_to_three n) k
  unfolding places_at
  placed k e = stood.back ∙ ap (places_of n) (sym e)

  pub numbered : (k : ℕ) → k < subset_count (up_to_three n) → get_or (order (up_to_three n)) k [] ≡ subset_at n p → Numbered n p k
  numbered k h e = (sym (ap (number_in n (order (up_to_three n))) (placed k e) ∙ number_at n range.few k h), h, e)

  -- there is one
  some_number : (k : ℕ) × Numbered n p k
  some_number =
      let t = stood in
      let m = mem_at (order (up_to_three n)) (subset_at n p) ((published 3 n).all (subset_at n p) t.rising t.least t.most) in
      (m.0, numbered m.0 m.1 m.2)

  pub next_is : next_of n p ≡ next_places (up_to_three n) p
  next_is =
      let m = some_number in
      let e = placed m.0 m.1.2 in
      follows n m.0 range.few m.1.1 p e ∙ sym (goes_on n range.few m.0 m.1.1 p e)

  places_back : places_at (up_to_three n) (number_in n (order (up_to_three n)) p) ≡ p
  places_back = let m = some_number in ap (places_at (up_to_three n)) (sym m.1.0) ∙ sym (placed m.0 m.1.2)

pub both_ways : BothWays
both_ways n few = record { number = number_at n few; places = places_back n }
