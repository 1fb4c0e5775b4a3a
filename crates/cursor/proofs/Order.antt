-- The cursor goes through the published order. Assumes nothing.
use Prim.Native.Nat.{ℕ, zero, suc, ◌+◌, ◌-◌, ◌≤◌, ◌<◌, zero-le, suc-le-suc}
use mathlib.Core.Bool.{cond}
use mathlib.Core.Path.{◌≡◌, refl, sym, ap, subst, ◌∙◌}
use mathlib.Core.List.{List, [], ◌∷◌, ◌++◌, map}
use lib.Dec.{ltb, eqb}
use lib.ListN.{length, get_or, get_or-eq_default}
use native.Mathlib.Omega.{arith}
use native.Mathlib.Numerals.{add-one, towards_suc}
use native.Mathlib.Nat.{le_of_suc-le-suc, not-suc-le-zero}
use borrow.Author.Tests.{eq-eqb, ne_eqb, lt-ltb, le-ltb}
use Rattle.exchange.specs.Subsets.{up_to_three, order, subset_count, ascending, subsets}
use Rattle.cursor.specs.Cursor.{OnSubset, places, places_of, places_at}
use Rattle.cursor.specs.declared.Places.{Places}

-- the next subset, as the cursor finds it
unfoldable pub next_of : ℕ → Places → Places
next_of n p =
    cond (eqb p.w n)
    (cond (ltb (p.v + 1) n) (places p.u (p.v + 1) n)
    (cond (ltb (p.u + 2) n) (places (p.u + 1) (p.u + 2) n) (places n n n)))
    (cond (ltb (p.w + 1) n) (places p.u p.v (p.w + 1))
    (cond (ltb (p.v + 2) n) (places p.u (p.v + 1) (p.v + 2))
    (cond (ltb (p.u + 3) n) (places (p.u + 1) (p.u + 2) (p.u + 3)) (places 0 1 n))))

-- ## The seven ways on

module _ (n : ℕ) (p : Places) where
  module _ (e : p.w ≡ n) where
    pub two_more : p.v + 1 < n → next_of n p ≡ places p.u (p.v + 1) n
    unfolding next_of
    two_more h = simp (eq-eqb _ _ e, lt-ltb _ _ h)

    pub two_over : n ≤ p.v + 1 → p.u + 2 < n → next_of n p ≡ places (p.u + 1) (p.u + 2) n
    unfolding next_of
    two_over h k = simp (eq-eqb _ _ e, le-ltb _ _ h, lt-ltb _ _ k)

    pub two_last : n ≤ p.v + 1 → n ≤ p.u + 2 → next_of n p ≡ places n n n
    unfolding next_of
    two_last h k = simp (eq-eqb _ _ e, le-ltb _ _ h, le-ltb _ _ k)

  module _ (e : p.w ≡ n → ⊥) where
    pub third_more : p.w + 1 < n → next_of n p ≡ places p.u p.v (p.w + 1)
    unfolding next_of
    third_more h = simp (ne_eqb _ _ e, lt-ltb _ _ h)

    module _ (a : n ≤ p.w + 1) where
      pub second_more : p.v + 2 < n → next_of n p ≡ places p.u (p.v + 1) (p.v + 2)
      unfolding next_of
      second_more h = simp (ne_eqb _ _ e, le-ltb _ _ a, lt-ltb _ _ h)

      pub first_more : n ≤ p.v + 2 → p.u + 3 < n → next_of n p ≡ places (p.u + 1) (p.u + 2) (p.u + 3)
      unfolding next_of
      first_more b h = simp (ne_eqb _ _ e, le-ltb _ _ a, le-ltb _ _ b, lt-ltb _ _ h)

      pub to_twos : n ≤ p.v + 2 → n ≤ p.u + 3 → next_of n p ≡ places 0 1 n
      unfolding next_of
      to_twos b h = simp (ne_eqb _ _ e, le-ltb _ _ a, le-ltb _ _ b, le-ltb _ _ h)

-- ## The walk

-- a subset in the published order
pub data Subset (n : ℕ) : List ℕ → Type 0 where
  two : {a b : ℕ} → a < b → b < n → Subset n (a ∷ b ∷ [])
  three : {a b c : ℕ} → a < b → b < c → c < n → Subset n (a ∷ b ∷ c ∷ [])

-- from p on the cursor meets the subsets of the list, one by one, and then stands at e
abbrev Walks : ℕ → Places → List (List ℕ) → Places → Type 0
Walks n p [] e = p ≡ e
Walks n p (s ∷ ss) e = (p ≡ places_of n s) × OnSubset n p × Subset n s × Walks n (next_of n p) ss e

walks_append : (n : ℕ) (p m e : Places) (a b : List (List ℕ)) → Walks n p a m → Walks n m b e → Walks n p (a ++ b) e
walks_append n p m e [] b f g = subst (λ (q : Places). Walks n q b e) (sym f) g
walks_append n p m e (s ∷ a) b f g = (f.0, f.1, f.2, walks_append n (next_of n p) m e a b f.3 g)

-- a place put before each of a list
abbrev before : ℕ → List (List ℕ) → List (List ℕ)
before u ss = map (λ (s : List ℕ). u ∷ s) ss

before_append : (u : ℕ) (a b : List (List ℕ)) → before u (a ++ b) ≡ before u a ++ before u b
before_append u [] b = refl
before_append u (x ∷ a) b = ap (λ (r : List (List ℕ)). (u ∷ x) ∷ r) (before_append u a b)

-- two places with each third from w on
thirds : (n u v w c : ℕ) → u < v → v < w → w + suc c ≡ n → n ≤ 200
    → Walks n (places u v w) (before u (before v (ascending 1 w (suc c)))) (next_of n (places u v (n - 1)))
unfolding ascending places_of
thirds n u v w zero a b e s =
    (refl, record { uv = a; vw = b; wn = omega arith; few = s }, three a b (omega arith), ap (λ (x : ℕ). next_of n (places u v x)) (omega arith))
thirds n u v w (suc c) a b e s =
    let at : next_of n (places u v w) ≡ places u v (suc w) =
    third_more n (places u v w) (λ q. omega arith) (omega arith) ∙ ap (λ (x : ℕ). places u v x) (omega arith) in (
      refl,
      record { uv = a; vw = b; wn = omega arith; few = s },
      three a b (omega arith),
      subst (λ (q : Places). Walks n q (before u (before v (ascending 1 (suc w) (suc c)))) (next_of n (places u v (n - 1)))) (sym at)
          (thirds n u v (suc w) c a (omega arith) (omega arith) s),
    )

-- one place with each two from v on
seconds : (n u v c : ℕ) → u < v → v + suc (suc c) ≡ n → n ≤ 200
    → Walks n (places u v (suc v)) (before u (ascending 2 v (suc (suc c)))) (next_of n (places u (n - 2) (n - 1)))
unfolding ascending
seconds n u v zero a e s =
    let f = thirds n u v (suc v) zero a (omega arith) (omega arith) s in
    let at : next_of n (places u v (n - 1)) ≡ next_of n (places u (n - 2) (n - 1)) =
    ap (λ (x : ℕ). next_of n (places u x (n - 1))) (omega arith) in
    subst (λ (l : List (List ℕ)). Walks n (places u v (suc v)) l (next_of n (places u (n - 2) (n - 1))))
    (sym (before_append u (before v (ascending 1 (suc v) 1)) []))
    (walks_append n _ _ _ (before u (before v (ascending 1 (suc v) 1))) [] f at)
seconds n u v (suc c) a e s =
    let f = thirds n u v (suc v) (suc c) a (omega arith) (omega arith) s in
    let at : next_of n (places u v (n - 1)) ≡ places u (suc v) (suc (suc v)) =
    second_more n (places u v (n - 1)) (λ q. omega arith) (omega arith) (omega arith)
    ∙ ap (λ (x : ℕ). places u x (v + 2)) (omega arith) ∙ ap (λ (x : ℕ). places u (suc v) x) (omega arith) in
    let g = seconds n u (suc v) c (omega arith) (omega arith) s in
    subst (λ (l : List (List ℕ)). Walks n (places u v (suc v)) l (next_of n (places u (n - 2) (n - 1))))
    (sym (before_append u (before v (ascending 1 (suc v) (suc (suc c)))) (ascending 2 (suc v) (suc (suc c)))))
    (walks_append n _ _ _ (before u (before v (ascending 1 (suc v) (suc (suc c))))) (before u (ascending 2 (suc v) (suc (suc c)))) f
    (subst (λ (q : Places). Walks n q (before u (ascending 2 (suc v) (suc (suc c)))) (next_of n (places u (n - 2) (n - 1)))) (sym at) g))

-- all triples from u on
triples : (n u c : ℕ) → u + suc (suc (suc c)) ≡ n → n ≤ 200
    → Walks n (places u (suc u) (suc (suc u))) (ascending 3 u (suc (suc (suc c)))) (places 0 1 n)
unfolding ascending
triples n u zero e s =
    let f = seconds n u (suc u) zero (omega arith) (omega arith) s in
    let at : next_of n (places u (n - 2) (n - 1)) ≡ places 0 1 n =
    to_twos n (places u (n - 2) (n - 1)) (λ q. omega arith) (omega arith) (omega arith) (omega arith) in
    walks_append n _ _ _ (before u (ascending 2 (suc u) 2)) [] f at
triples n u (suc c) e s =
    let f = seconds n u (suc u) (suc c) (omega arith) (omega arith) s in
    let at : next_of n (places u (n - 2) (n - 1)) ≡ places (suc u) (suc (suc u)) (suc (suc (suc u))) =
    first_more n (places u (n - 2) (n - 1)) (λ q. omega arith) (omega arith) (omega arith) (omega arith) ∙ simp towards_suc in
    let g = triples n (suc u) c (omega arith) s in
    walks_append n _ _ _ (before u (ascending 2 (suc u) (suc (suc (suc c))))) (ascending 3 (suc u) (suc (suc (suc c)))) f
    (subst (λ (q : Places). Walks n q (ascending 3 (suc u) (suc (suc (suc c)))) (places 0 1 n)) (sym at) g)

-- one place with each other from v on
others : (n u v c : ℕ) → u < v → v + suc c ≡ n → n ≤ 200
    → Walks n (places u v n) (before u (ascending 1 v (suc c))) (next_of n (places u (n - 1) n))
unfolding ascending places_of
others n u v zero a e s =
    (refl, record { uv = a; vw = omega arith; wn = omega arith; few = s }, two a (omega arith), ap (λ (x : ℕ). next_of n (places u x n)) (omega arith))
others n u v (suc c) a e s =
    let at : next_of n (places u v n) ≡ places u (suc v) n = two_more n (places u v n) refl (omega arith) ∙ simp towards_suc in (
      refl,
      record { uv = a; vw = omega arith; wn = omega arith; few = s },
      two a (omega arith),
      subst (λ (q : Places). Walks n q (before u (ascending 1 (suc v) (suc c))) (next_of n (places u (n - 1) n))) (sym at)
          (others n u (suc v) c (omega arith) (omega arith) s),
    )

-- all twos from u on
twos : (n u c : ℕ) → u + suc (suc c) ≡ n → n ≤ 200 → Walks n (places u (suc u) n) (ascending 2 u (suc (suc c))) (places n n n)
unfolding ascending
twos n u zero e s =
    let f = others n u (suc u) zero (omega arith) (omega arith) s in
    let at : next_of n (places u (n - 1) n) ≡ places n n n = two_last n (places u (n - 1) n) refl (omega arith) (omega arith) in
    walks_append n _ _ _ (before u (ascending 1 (suc u) 1)) [] f at
twos n u (suc c) e s =
    let f = others n u (suc u) (suc c) (omega arith) (omega arith) s in
    let at : next_of n (places u (n - 1) n) ≡ places (suc u) (suc (suc u)) n =
    two_over n (places u (n - 1) n) refl (omega arith) (omega arith) ∙ simp towards_suc in
    let g = twos n (suc u) c (omega arith) s in
    walks_append n _ _ _ (before u (ascending 1 (suc u) (suc (suc c)))) (ascending 2 (suc u) (suc (suc c))) f
    (subst (λ (q : Places). Walks n q (ascending 2 (suc u) (suc (suc c))) (places n n n)) (sym at) g)

-- all subsets
walks : (n : ℕ) → n ≤ 200 → Walks n (places_at (up_to_three n) 0) (order (up_to_three n)) (places n n n)
unfolding ascending subsets places_at places_of
walks zero s = refl
walks (suc zero) s = refl
walks (suc (suc zero)) s = walks_append 2 _ _ _ (ascending 2 0 2) [] (twos 2 0 0 refl s) refl
walks (suc (suc (suc c))) s =
    let n : ℕ = suc (suc (suc c)) in
    walks_append n _ _ _ (ascending 3 0 n) (ascending 2 0 n ++ []) (triples n 0 c (omega arith) s)
    (walks_append n _ _ _ (ascending 2 0 n) [] (twos n 0 (suc c) (omega arith) s) refl)

-- ## The law: at the subset of number k the cursor is in range, and its next is the subset of number k + 1

abbrev along : ℕ → List (List ℕ) → ℕ → Places
along n ss k = places_of n (get_or ss k [])

step : (n : ℕ) (p : Places) (ss : List (List ℕ)) (k : ℕ) → Walks n p ss (places n n n) → k < length ss
    → OnSubset n (along n ss k) × Subset n (get_or ss k []) × (next_of n (along n ss k) ≡ along n ss (suc k))
unfolding places_of
step n p [] k f h = absurd (not-suc-le-zero h)
step n p (s ∷ []) zero f h = (subst (OnSubset n) f.0 f.1, f.2, ap (next_of n) (sym f.0) ∙ f.3)
step n p (s ∷ t ∷ ss) zero f h = (subst (OnSubset n) f.0 f.1, f.2, ap (next_of n) (sym f.0) ∙ f.3.0)
step n p (s ∷ ss) (suc k) f h = step n (next_of n p) ss k f.3 (le_of_suc-le-suc h)

module _ (n k : ℕ) (few : n ≤ 200) (h : k < subset_count (up_to_three n)) where
  pub at_range : OnSubset n (places_at (up_to_three n) k)
  unfolding places_at
  at_range = (step n (places_at (up_to_three n) 0) (order (up_to_three n)) k (walks n few) h).0

  pub is_subset : Subset n (get_or (order (up_to_three n)) k [])
  unfolding places_at
  is_subset = (step n (places_at (up_to_three n) 0) (order (up_to_three n)) k (walks n few) h).1

  pub next_at : next_of n (places_at (up_to_three n) k) ≡ places_at (up_to_three n) (k + 1)
  unfolding places_at
  next_at = (step n (places_at (up_to_three n) 0) (order (up_to_three n)) k (walks n few) h).2 ∙ ap (places_at (up_to_three n)) (sym (add-one k))

  module _ (p : Places) (e : p ≡ places_at (up_to_three n) k) where
    pub in_range_lem : OnSubset n p
    in_range_lem = subst (OnSubset n) (sym e) at_range

    pub follows : next_of n p ≡ places_at (up_to_three n) (k + 1)
    follows = ap (next_of n) e ∙ next_at

-- ## The two ends

pub past : (n k : ℕ) → subset_count (up_to_three n) ≤ k → places_at (up_to_three n) k ≡ places n n n
unfolding places_at places_of
past n k h = ap (places_of n) (get_or-eq_default (order (up_to_three n)) [] h)

pub first_none : (n : ℕ) → n < 2 → places n n n ≡ places_at (up_to_three n) 0
unfolding places_at places_of subsets ascending
first_none zero h = refl
first_none (suc zero) h = refl
first_none (suc (suc c)) h = absurd (omega arith)

pub first_some : (n : ℕ) → 2 ≤ n → places 0 1 2 ≡ places_at (up_to_three n) 0
unfolding places_at places_of subsets ascending
first_some zero h = absurd (not-suc-le-zero h)
first_some (suc zero) h = absurd (not-suc-le-zero (le_of_suc-le-suc h))
first_some (suc (suc zero)) h = refl
first_some (suc (suc (suc c))) h = refl

pub some_subset : (n : ℕ) → 2 ≤ n → 0 < subset_count (up_to_three n)
unfolding subsets ascending
some_subset zero h = absurd (not-suc-le-zero h)
some_subset (suc zero) h = absurd (not-suc-le-zero (le_of_suc-le-suc h))
some_subset (suc (suc zero)) h = suc-le-suc zero-le
some_subset (suc (suc (suc c))) h = suc-le-suc zero-le
