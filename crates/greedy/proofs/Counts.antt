-- How often a number stands in a list. "No two of these lists share a place, and none holds one twice" is said as one fact on counts:
-- each place stands at most once in the lists joined end to end. Assumes nothing.
use Prim.Native.Nat.{ℕ, zero, suc, ◌+◌, ◌≤◌, ◌<◌}
use mathlib.Core.Bool.{Bool, true, false}
use mathlib.Core.List.{List, [], ◌∷◌, ◌++◌}
use mathlib.Core.Logic.{◌≢◌}
use mathlib.Core.Path.{◌≡◌, refl, sym, ap, ◌∙◌}
use native.Mathlib.Omega.{arith}
use native.Mathlib.Decide.{dec_le}
use lib.Dec.{leb, eqb}
use lib.ListN.{length}
use borrow.Author.Tests.{eqb-true, eqb-false, eq-eqb, leb-true, leb-false, le-leb}
use Rattle.laws.specs.Below.{either, one}
use Rattle.greedy.specs.Places.{among, meets}

-- how often p stands in a list
unfoldable pub times : ℕ → List ℕ → ℕ
times p [] = 0
times p (x ∷ xs) = one (eqb p x) + times p xs

-- how many of the places of c stand in l
unfoldable pub shared : List ℕ → List ℕ → ℕ
unfolding times
shared [] l = 0
shared (p ∷ c) l = times p l + shared c l

-- no number stands twice
abbrev pub NoneTwice : List ℕ → Type 0
NoneTwice l = (p : ℕ) → times p l ≤ 1

-- every number is below n
abbrev pub AllBelow : ℕ → List ℕ → Type 0
AllBelow n l = (p : ℕ) → n ≤ p → times p l ≡ 0

-- the same numbers, each as often: two lists that differ in order at most
abbrev pub Alike : List ℕ → List ℕ → Type 0
Alike l t = (p : ℕ) → times p l ≡ times p t

pub one_eq : (p x : ℕ) → p ≡ x → one (eqb p x) ≡ 1
unfolding one
one_eq p x e = rw (eq-eqb p x e)

pub one_same : (p : ℕ) → one (eqb p p) ≡ 1
one_same p = one_eq p p refl

-- two numbers, compared
pub data Same (p x : ℕ) : Type 0 where
  same : p ≡ x → one (eqb p x) ≡ 1 → Same p x
  other : p ≢ x → one (eqb p x) ≡ 0 → Same p x

pub same? : (p x : ℕ) → Same p x
unfolding one
same? p x = go (eqb p x) refl
  where
    go : (b : Bool) → eqb p x ≡ b → Same p x
    go true e = same (eqb-true p x e) (rw e)
    go false e = other (eqb-false p x e) (rw e)

pub times_cons : (p x : ℕ) (l : List ℕ) → times p (x ∷ l) ≡ one (eqb p x) + times p l
unfolding times
times_cons p x l = refl

pub times_append : (p : ℕ) (s t : List ℕ) → times p (s ++ t) ≡ times p s + times p t
unfolding times
times_append p [] t = omega arith
times_append p (x ∷ s) t = omega (arith, times_append p s t)

pub shared_nil : (c : List ℕ) → shared c [] ≡ 0
unfolding shared
shared_nil [] = refl
shared_nil (p ∷ c) = omega (arith, shared_nil c)

pub shared_append : (c s t : List ℕ) → shared c (s ++ t) ≡ shared c s + shared c t
unfolding shared
shared_append [] s t = refl
shared_append (p ∷ c) s t = omega (arith, shared_append c s t, times_append p s t)

pub shared_join : (c d l : List ℕ) → shared (c ++ d) l ≡ shared c l + shared d l
unfolding shared
shared_join [] d l = omega arith
shared_join (p ∷ c) d l = omega (arith, shared_join c d l)

-- where no number stands twice in l, at most length c of c's places stand there
pub shared_once : (c l : List ℕ) → NoneTwice l → shared c l ≤ length c
unfolding shared
shared_once [] l h = omega arith
shared_once (p ∷ c) l h = omega (arith, shared_once c l h, h p)

-- a place of both is counted
pub shared_both : (p : ℕ) (c l : List ℕ) → 1 ≤ times p c → times p l ≤ shared c l
unfolding shared times
shared_both p [] l h = omega arith
shared_both p (q ∷ c) l h = elim (same? p q) [
  | same e k ↦ rw (← e) (omega arith)
  | other e k ↦ omega (arith, shared_both p c l (omega arith))
]

-- ---- a list of numbers below n has as many as its counts add up to: so at most n different ones, and as many as any list with the same counts

unfoldable pub total : ℕ → List ℕ → ℕ
total zero l = 0
total (suc n) l = times n l + total n l

total_once : (n : ℕ) (l : List ℕ) → NoneTwice l → total n l ≤ n
unfolding total
total_once zero l h = omega arith
total_once (suc n) l h = omega (arith, total_once n l h, h n)

total_cong : (n : ℕ) (l t : List ℕ) → Alike l t → total n l ≡ total n t
unfolding total
total_cong zero l t h = refl
total_cong (suc n) l t h = omega (arith, total_cong n l t h, h n)

total_nil : (n : ℕ) → total n [] ≡ 0
unfolding total times
total_nil zero = refl
total_nil (suc n) = omega (arith, total_nil n)

total_cons : (n x : ℕ) (l : List ℕ) → total n (x ∷ l) ≡ total n (x ∷ []) + total n l
unfolding total times
total_cons zero x l = refl
total_cons (suc n) x l = omega (arith, total_cons n x l)

total_past : (n x : ℕ) → n ≤ x → total n (x ∷ []) ≡ 0
unfolding total times
total_past zero x h = refl
total_past (suc n) x h = elim (same? n x) [
  | same e k ↦ omega arith
  | other e k ↦ omega (arith, total_past n x (omega arith))
]

total-one : (n x : ℕ) → x < n → total n (x ∷ []) ≡ 1
unfolding total times
total-one zero x h = omega arith
total-one (suc n) x h = elim (same? n x) [
  | same e k ↦ omega (arith, total_past n x (omega arith))
  | other e k ↦ omega (arith, total-one n x (omega arith))
]

pub below-head : (n x : ℕ) (l : List ℕ) → AllBelow n (x ∷ l) → x < n
unfolding times
below-head n x l h = elim (dec_le n x) [ yes k ↦ omega (arith, h x k, one_same x) | no k ↦ omega arith ]

pub below_tail : (n x : ℕ) (l : List ℕ) → AllBelow n (x ∷ l) → AllBelow n l
unfolding times
below_tail n x l h p q = omega (arith, h p q)

pub length-total : (n : ℕ) (l : List ℕ) → AllBelow n l → length l ≡ total n l
length-total n [] h = omega (arith, total_nil n)
length-total n (x ∷ l) h = omega (arith, total_cons n x l, total-one n x (below-head n x l h), length-total n l (below_tail n x l h))

pub pigeon : (n : ℕ) (l : List ℕ) → NoneTwice l → AllBelow n l → length l ≤ n
pigeon n l h k = omega (arith, length-total n l k, total_once n l h)

pub alike_length : (n : ℕ) (l t : List ℕ) → AllBelow n t → Alike l t → length l ≡ length t
alike_length n l t b h = omega (arith, length-total n l (λ p q. omega (arith, b p q, h p)), length-total n t b, total_cong n l t h)

pub shared_alike : (c l t : List ℕ) → Alike l t → shared c l ≡ shared c t
unfolding shared
shared_alike [] l t h = refl
shared_alike (p ∷ c) l t h = omega (arith, h p, shared_alike c l t h)

-- where x stands
pub split_at : (x : ℕ) (l : List ℕ) → 1 ≤ times x l → (a : List ℕ) × (b : List ℕ) × (l ≡ a ++ x ∷ b)
unfolding times
split_at x [] h = absurd (omega arith)
split_at x (y ∷ l) h = elim (same? x y) [
  | same e k ↦ ([], l, ap (λ (z : ℕ). z ∷ l) (sym e))
  | other e k ↦
      let r = split_at x l (omega arith) in
      (y ∷ r.0, r.1, ap (λ (z : List ℕ). y ∷ z) r.2)
]

-- ---- `among` and `meets`, by counts

one_sym : (p x : ℕ) → one (eqb p x) ≡ one (eqb x p)
one_sym p x = elim (same? p x) [
  | same e k ↦ omega (arith, one_eq x p (sym e))
  | other e k ↦ elim (same? x p) [ same d z ↦ absurd (e (sym d)) | other d z ↦ omega arith ]
]

shared_cons : (c : List ℕ) (x : ℕ) (l : List ℕ) → shared c (x ∷ l) ≡ times x c + shared c l
unfolding shared times
shared_cons [] x l = refl
shared_cons (p ∷ c) x l = omega (arith, shared_cons c x l, one_sym p x)

pub shared_sym : (c l : List ℕ) → shared c l ≡ shared l c
unfolding shared
shared_sym c [] = shared_nil c
shared_sym c (x ∷ l) = shared_cons c x l ∙ ap (λ (z : ℕ). times x c + z) (shared_sym c l)

pub among_times : (p : ℕ) (l : List ℕ) → among p l ≡ leb 1 (times p l)
unfolding among times either one
among_times p [] = refl
among_times p (q ∷ l) = go (eqb p q) (among_times p l)
  where
    go : (b : Bool) → among p l ≡ leb 1 (times p l) → either b (among p l) ≡ leb 1 (one b + times p l)
    go true e = sym (le-leb 1 (1 + times p l) (omega arith))
    go false e = let z : 0 + times p l ≡ times p l = omega arith in e ∙ ap (leb 1) (sym z)

pub meets_shared : (c l : List ℕ) → meets c l ≡ leb 1 (shared c l)
unfolding meets shared either
meets_shared [] l = refl
meets_shared (p ∷ c) l = rw (among_times p l) (go (leb 1 (times p l)) refl (meets_shared c l))
  where
    go : (b : Bool) → leb 1 (times p l) ≡ b → meets c l ≡ leb 1 (shared c l) → either b (meets c l) ≡ leb 1 (times p l + shared c l)
    go true e k = sym (le-leb 1 (times p l + shared c l) (omega (arith, leb-true 1 (times p l) e)))
    go false e k =
        let z : times p l + shared c l ≡ shared c l = omega (arith, leb-false 1 (times p l) e) in
        k ∙ ap (leb 1) (sym z)

pub meets_sym : (c l : List ℕ) → meets c l ≡ meets l c
meets_sym c l = meets_shared c l ∙ ap (leb 1) (shared_sym c l) ∙ sym (meets_shared l c)
