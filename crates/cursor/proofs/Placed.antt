-- Where a subset stands in the published order, by the counts of twos and triples. Assumes nothing.
use Prim.Native.Nat.{ℕ, zero, suc, ◌+◌, ◌-◌, ◌≤◌, ◌<◌}
use mathlib.Core.List.{List, [], ◌∷◌, ◌++◌, map}
use mathlib.Core.Path.{◌≡◌, refl, sym, ap, ◌∙◌}
use native.Mathlib.Omega.{arith}
use native.Mathlib.Nat.{zero-add}
use lib.ListN.{length, get_or, length-map, get_or-append}
use lib.Seq.{get_or-append-add}
use Rattle.exchange.specs.Subsets.{ascending, subsets, up_to_three, order}
use Rattle.exchange.proofs.Counted.{binomial, length-ascending, ones, count_triples, count_twos, binomial_mono}
use Rattle.counting.specs.Counting.{of_size, Begins}
use Rattle.counting.proofs.Sized.{two_more, triple_more}
use Rattle.cursor.specs.Cursor.{OnSubset, places, places_at, TwoAt}
use Rattle.cursor.specs.declared.Places.{Places}
use Rattle.cursor.proofs.Standing.{at_two, at_triple, range_two, range_triple}
use Rattle.cursor.proofs.Following.{placed, Numbered, numbered}
use Rattle.cursor.proofs.Number.{count_is}

-- ## The ascending lists that begin at the first place, and the others

map_at : (p : ℕ) (ss : List (List ℕ)) (j : ℕ) → j < length ss → get_or (map (λ (s : List ℕ). p ∷ s) ss) j [] ≡ p ∷ get_or ss j []
map_at p [] j h = absurd (omega arith)
map_at p (s ∷ ss) zero h = refl
map_at p (s ∷ ss) (suc j) h = map_at p ss j (omega arith)

module _ (k p c : ℕ) where
  abbrev here : List (List ℕ)
  here = map (λ (s : List ℕ). p ∷ s) (ascending k (suc p) c)

  here_length : length here ≡ binomial k c
  here_length = length-map (ascending k (suc p) c) (λ (s : List ℕ). p ∷ s) ∙ length-ascending k (suc p) c

  begins_here : (j : ℕ) → j < binomial k c → get_or (ascending (suc k) p (suc c)) j [] ≡ p ∷ get_or (ascending k (suc p) c) j []
  unfolding ascending
  begins_here j h =
      get_or-append here (ascending (suc k) (suc p) c) [] j (omega (arith, here_length))
      ∙ map_at p (ascending k (suc p) c) j (omega (arith, length-ascending k (suc p) c))

  begins_later : (j : ℕ) → get_or (ascending (suc k) p (suc c)) (binomial k c + j) [] ≡ get_or (ascending (suc k) (suc p) c) j []
  unfolding ascending
  begins_later j =
      ap (λ (x : ℕ). get_or (here ++ ascending (suc k) (suc p) c) (x + j) []) (sym here_length)
      ∙ get_or-append-add here (ascending (suc k) (suc p) c) j []

-- of those of c places from p on, with e places after the lowest: all that begin lower come first, and then the others go up
found : (k p c d e i j : ℕ) → c ≡ d + suc e → i < binomial k e → j + binomial (suc k) (suc e) ≡ binomial (suc k) c + i
    → get_or (ascending (suc k) p c) j [] ≡ (p + d) ∷ get_or (ascending k (suc (p + d)) e) i []
unfolding binomial
found k p zero d e i j a b h = absurd (omega arith)
found k p (suc c) zero e i j a b h =
    let x : c ≡ e = omega arith in
    let y : j ≡ i = omega (arith, ap (binomial (suc k)) x, ap (binomial k) x) in
    let z : p ≡ p + 0 = omega arith in
    begins_here k p c j (omega (arith, ap (binomial k) x)) ∙ (λ t. (z t) ∷ get_or (ascending k (suc (z t)) (x t)) (y t) [])
found k p (suc c) (suc d) e i j a b h =
    let x : j ≡ binomial k c + (j - binomial k c) = omega (arith, binomial_mono (suc k) (suc e) c (omega arith)) in
    let z : suc p + d ≡ p + suc d = omega arith in
    ap (λ (y : ℕ). get_or (ascending (suc k) p (suc c)) y []) x ∙ begins_later k p c (j - binomial k c)
    ∙ found k (suc p) c d e i (j - binomial k c) (omega arith) b (omega arith)
    ∙ (λ t. (z t) ∷ get_or (ascending k (suc (z t)) e) i [])

-- ## One place, two and three

one_found : (p c i : ℕ) → i < c → get_or (ascending 1 p c) i [] ≡ (p + i) ∷ []
unfolding ascending binomial
one_found p c i h = found 0 p c i (c - i - 1) 0 i (omega arith) (omega arith) (omega (arith, ones c, ones (suc (c - i - 1))))

module _ (n u v k : ℕ) (t : TwoAt n u v k) where
  two_found : (p : ℕ) → get_or (ascending 2 p n) k [] ≡ (p + u) ∷ (p + v) ∷ []
  two_found p =
      let after : ℕ = n - (u + 1) in
      let c : n - u ≡ suc after = omega (arith, t.rising, t.within) in
      found 1 p n u after (v - u - 1) k (omega (arith, c)) (omega (arith, ones after, t.rising, t.within))
      (omega (arith, t.number, ap (binomial 2) c, count_twos n, count_twos (n - u)))
      ∙ ap (λ (s : List ℕ). (p + u) ∷ s)
      (one_found (suc (p + u)) after (v - u - 1) (omega (arith, t.rising, t.within)) ∙ ap (λ (x : ℕ). x ∷ []) (omega (arith, t.rising)))

  pub two_below : k < of_size 2 n
  two_below =
      let c : n - u ≡ suc (n - (u + 1)) = omega (arith, t.rising, t.within) in
      omega (arith, t.number, t.rising, t.within, two_more (n - u) (n - (u + 1)) c)

  two_in_order : get_or (order (up_to_three n)) (of_size 3 n + k) [] ≡ u ∷ v ∷ []
  unfolding subsets
  two_in_order =
      let long : of_size 3 n ≡ length (ascending 3 0 n) = omega (arith, count_triples n, length-ascending 3 0 n) in
      ap (λ (x : ℕ). get_or (order (up_to_three n)) (x + k) []) long
      ∙ get_or-append-add (ascending 3 0 n) (ascending 2 0 n ++ []) k []
      ∙ get_or-append (ascending 2 0 n) [] [] k (omega (arith, two_below, count_twos n, length-ascending 2 0 n))
      ∙ two_found 0 ∙ (λ i. zero-add u i ∷ zero-add v i ∷ [])

module _ (n u v w i k : ℕ) (begins : u < n) (t : TwoAt (n - (u + 1)) v w i) (number : k + of_size 3 (n - u) ≡ of_size 3 n + i) where
  pub triple_below : k < of_size 3 n
  triple_below =
      let c : n - u ≡ suc (n - (u + 1)) = omega arith in
      omega (arith, number, two_below (n - (u + 1)) v w i t, triple_more (n - u) (n - (u + 1)) c)

  triple_in_order : get_or (order (up_to_three n)) k [] ≡ u ∷ (u + 1 + v) ∷ (u + 1 + w) ∷ []
  unfolding subsets
  triple_in_order =
      let c : n - u ≡ suc (n - (u + 1)) = omega arith in
      get_or-append (ascending 3 0 n) (ascending 2 0 n ++ []) [] k (omega (arith, triple_below, count_triples n, length-ascending 3 0 n))
      ∙ found 2 0 n u (n - (u + 1)) i k (omega arith) (omega (arith, two_below (n - (u + 1)) v w i t, count_twos (n - (u + 1))))
      (omega (arith, number, ap (binomial 3) c, count_triples n, count_triples (n - u)))
      ∙ (λ j. zero-add u j ∷ get_or (ascending 2 (suc (zero-add u j)) (n - (u + 1))) i [])
      ∙ ap (λ (s : List ℕ). u ∷ s) (two_found (n - (u + 1)) v w i t (suc u) ∙ (λ j. (shift v j) ∷ (shift w j) ∷ []))
    where
      shift : (x : ℕ) → suc u + x ≡ u + 1 + x
      shift x = omega arith

-- ## From the place at which a number's subset begins, with b subsets that begin below it

module _ (n k u b : ℕ) where
  pub two_begun : Begins 2 n k u → b + of_size 2 (n - u) ≡ of_size 2 n → TwoAt n u (u + 1 + (k - b)) k
  two_begun h e =
      let c : n - u ≡ suc (n - (u + 1)) = omega (arith, h.within) in
      record {
        rising = omega arith;
        within = omega (arith, h.within, h.reached, h.passed, two_more (n - u) (n - (u + 1)) c);
        number = omega (arith, h.reached);
      }

  pub others_below : Begins 3 n k u → b + of_size 3 (n - u) ≡ of_size 3 n → k - b < of_size 2 (n - (u + 1))
  others_below h e =
      let c : n - u ≡ suc (n - (u + 1)) = omega (arith, h.within) in
      omega (arith, h.reached, h.passed, triple_more (n - u) (n - (u + 1)) c)

-- ## A number's places, and a cursor's number

module _ (n : ℕ) (few : n ≤ 200) where
  -- the cursor at a number among the twos, past the triples
  pub two_placed : (p : Places) (k : ℕ) → of_size 3 n ≤ k → TwoAt n p.u p.v (k - of_size 3 n) → p.w ≡ n → p ≡ places_at (up_to_three n) k
  two_placed p k l t e =
      let x : of_size 3 n + (k - of_size 3 n) ≡ k = omega arith in
      placed n p (record { uv = t.rising; vw = omega (arith, t.within); wn = omega arith; few = few }) k
      (ap (λ (j : ℕ). get_or (order (up_to_three n)) j []) (sym x) ∙ two_in_order n p.u p.v (k - of_size 3 n) t
      ∙ sym (at_two n p (omega (arith, t.rising, t.within)) t.within e))

  -- and among the triples
  pub triple_placed : (u v w i k : ℕ) → u < n → TwoAt (n - (u + 1)) v w i → k + of_size 3 (n - u) ≡ of_size 3 n + i
      → places u (u + 1 + v) (u + 1 + w) ≡ places_at (up_to_three n) k
  triple_placed u v w i k h t e =
      let p : Places = places u (u + 1 + v) (u + 1 + w) in
      let last : p.w < n = omega (arith, t.rising, t.within) in
      placed n p (record { uv = omega arith; vw = omega (arith, t.rising); wn = omega arith; few = few }) k
      (triple_in_order n u v w i k h t e ∙ sym (at_triple n p h (omega (arith, t.rising, t.within)) last))

module _ (n : ℕ) (p : Places) (range : OnSubset n p) where
  pub two_numbered : (k : ℕ) → p.w ≡ n → TwoAt n p.u p.v k → Numbered n p (of_size 3 n + k)
  two_numbered k e t =
      numbered n p range (of_size 3 n + k) (omega (arith, count_is n, two_below n p.u p.v k t))
      (two_in_order n p.u p.v k t ∙ sym (range_two n p range e))

  -- b triples begin below its lowest place
  pub triple_numbered : (b i : ℕ) → (p.w ≡ n → ⊥) → b + of_size 3 (n - p.u) ≡ of_size 3 n
      → TwoAt (n - (p.u + 1)) (p.v - (p.u + 1)) (p.w - (p.u + 1)) i → Numbered n p (b + i)
  triple_numbered b i d before t =
      let h : p.u < n = omega (arith, range.uv, range.vw, range.wn) in
      let e : b + i + of_size 3 (n - p.u) ≡ of_size 3 n + i = omega arith in
      let v : p.u + 1 + (p.v - (p.u + 1)) ≡ p.v = omega (arith, range.uv) in
      let w : p.u + 1 + (p.w - (p.u + 1)) ≡ p.w = omega (arith, range.uv, range.vw) in
      numbered n p range (b + i) (omega (arith, count_is n, triple_below n p.u _ _ i (b + i) h t e))
      (triple_in_order n p.u _ _ i (b + i) h t e ∙ (λ j. p.u ∷ v j ∷ w j ∷ []) ∙ sym (range_triple n p range d))
