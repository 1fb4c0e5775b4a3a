-- What stands in the published order, and where each set of places stands in it. Assumes nothing.
use Prim.Native.Nat.{ℕ, zero, suc, ◌+◌, ◌≤◌, ◌<◌}
use mathlib.Core.Bool.{Bool, true, false, cond}
use mathlib.Core.List.Memᴰ
use mathlib.Core.List.{List, [], ◌∷◌, ◌++◌, map, Memᴰ}
use mathlib.Core.Logic.{◌≢◌, ◌⊎◌, inl, inr}
use mathlib.Core.Path.{◌≡◌, refl, sym, ap}
use native.Mathlib.Omega.{arith}
use native.Mathlib.Decide.{dec_le}
use lib.Dec.{leb}
use lib.ListN.{length, get_or}
use borrow.Author.Tests.{leb-true, leb-false}
use Rattle.exchange.specs.Subsets.{ascending, subsets}
use Rattle.exchange.specs.Rivals.{Each}
use Rattle.greedy.proofs.Counts.{times, NoneTwice, AllBelow, Alike, Same, same, other, same?, alike_length}

-- ---- every one of a list

pub each_append : {A : Type 0} (P : A → Type 0) (xs ys : List A) → Each P xs → Each P ys → Each P (xs ++ ys)
each_append P [] ys h k = k
each_append P (x ∷ xs) ys h k = (h.0, each_append P xs ys h.1 k)

pub each_map : (P Q : List ℕ → Type 0) (f : List ℕ → List ℕ) → ((s : List ℕ) → P s → Q (f s)) → (xs : List (List ℕ)) → Each P xs → Each Q (map f xs)
each_map P Q f g [] h = tt
each_map P Q f g (x ∷ xs) h = (g x h.0, each_map P Q f g xs h.1)

pub each_mono : {A : Type 0} (P Q : A → Type 0) → ((s : A) → P s → Q s) → (xs : List A) → Each P xs → Each Q xs
each_mono P Q g [] h = tt
each_mono P Q g (x ∷ xs) h = (g x h.0, each_mono P Q g xs h.1)

pub each_at : (P : List ℕ → Type 0) (xs : List (List ℕ)) → P [] → Each P xs → (i : ℕ) → P (get_or xs i [])
each_at P [] p h i = p
each_at P (x ∷ xs) p h zero = h.0
each_at P (x ∷ xs) p h (suc i) = each_at P xs p h.1 i

-- ---- what is among the subsets

pub record Sub (lo hi k : ℕ) (s : List ℕ) : Type 0 where
  pub once : NoneTwice s
  pub low : (p : ℕ) → p < lo → times p s ≡ 0
  pub high : AllBelow hi s
  pub size : length s ≡ k

pub ascending_all : (k from c : ℕ) → Each (Sub from (from + c) k) (ascending k from c)
unfolding ascending times
ascending_all zero from c = (record { once = λ p. omega arith; low = λ p h. refl; high = λ p h. refl; size = refl }, tt)
ascending_all (suc k) from zero = tt
ascending_all (suc k) from (suc c) =
    each_append _ (map (λ (s : List ℕ). from ∷ s) (ascending k (suc from) c)) (ascending (suc k) (suc from) c)
    (each_map (Sub (suc from) (suc from + c) k) (Sub from (from + suc c) (suc k)) (λ (s : List ℕ). from ∷ s) grow (ascending k (suc from) c) (ascending_all k (suc from) c))
    (each_mono (Sub (suc from) (suc from + c) (suc k)) (Sub from (from + suc c) (suc k)) wider (ascending (suc k) (suc from) c) (ascending_all (suc k) (suc from) c))
  where
    wider : (s : List ℕ) → Sub (suc from) (suc from + c) (suc k) s → Sub from (from + suc c) (suc k) s
    wider s h = record { once = h.once; low = λ p q. h.low p (omega arith); high = λ p q. h.high p (omega arith); size = h.size }

    grow : (s : List ℕ) → Sub (suc from) (suc from + c) k s → Sub from (from + suc c) (suc k) (from ∷ s)
    grow s h = record {
      once = λ p. elim (same? p from) [ same e q ↦ omega (arith, h.low p (omega arith)) | other e q ↦ omega (arith, h.once p) ];
      low = λ p r. elim (same? p from) [ same e q ↦ omega arith | other e q ↦ omega (arith, h.low p (omega arith)) ];
      high = λ p r. elim (same? p from) [ same e q ↦ omega arith | other e q ↦ omega (arith, h.high p (omega arith)) ];
      size = ap suc h.size;
    }

-- a subset of at least two and at most l of n places
pub record Subset (l n : ℕ) (s : List ℕ) : Type 0 where
  pub once : NoneTwice s
  pub below : AllBelow n s
  pub least : 2 ≤ length s
  pub most : length s ≤ l

pub subsets_all : (l n : ℕ) → Each (Subset l n) (subsets l n)
unfolding subsets
subsets_all zero n = tt
subsets_all (suc zero) n = tt
subsets_all (suc (suc k)) n = each_append _ (ascending (suc (suc k)) 0 n) (subsets (suc k) n)
    (each_mono (Sub 0 (0 + n) (suc (suc k))) (Subset (suc (suc k)) n) (λ s h. record { once = h.once; below = λ p q. h.high p (omega arith); least = omega (arith, h.size); most = omega (arith, h.size) })
    (ascending (suc (suc k)) 0 n) (ascending_all (suc (suc k)) 0 n))
    (each_mono (Subset (suc k) n) (Subset (suc (suc k)) n) (λ s h. record { once = h.once; below = h.below; least = h.least; most = omega (arith, h.most) })
    (subsets (suc k) n) (subsets_all (suc k) n))

-- ---- every set of places is among them: the places of l in ascending order

unfoldable pub arrange : ℕ → ℕ → List ℕ → List ℕ
unfolding times
arrange from zero l = []
arrange from (suc c) l = cond (leb 1 (times from l)) (from ∷ arrange (suc from) c l) (arrange (suc from) c l)

pub mem-map : {A B : Type 0} (f : A → B) {x : A} {l : List A} → Memᴰ x l → Memᴰ (f x) (map f l)
mem-map f (Memᴰ.head e) = Memᴰ.head (ap f e)
mem-map f (Memᴰ.tail m) = Memᴰ.tail (mem-map f m)

ascending_later : (k from c : ℕ) (s : List ℕ) → Memᴰ s (ascending k (suc from) c) → Memᴰ s (ascending k from (suc c))
unfolding ascending
ascending_later zero from c s m = m
ascending_later (suc k) from c s m = Memᴰ.append_right (map (λ (s : List ℕ). from ∷ s) (ascending k (suc from) c)) m

arrange_mem : (from c : ℕ) (l : List ℕ) → Memᴰ (arrange from c l) (ascending (length (arrange from c l)) from c)
unfolding arrange ascending
arrange_mem from zero l = Memᴰ.head refl
arrange_mem from (suc c) l = go (leb 1 (times from l)) (arrange_mem (suc from) c l)
  where
    r : List ℕ
    r = arrange (suc from) c l

    go : (b : Bool) → Memᴰ r (ascending (length r) (suc from) c)
        → Memᴰ (cond b (from ∷ r) r) (ascending (length (cond b (from ∷ r) r)) from (suc c))
    go true m = Memᴰ.append_left (ascending (suc (length r)) (suc from) c) (mem-map (λ (s : List ℕ). from ∷ s) m)
    go false m = ascending_later (length r) from c r m

arrange_out : (from c p : ℕ) (l : List ℕ) → (p < from) ⊎ (from + c ≤ p) → times p (arrange from c l) ≡ 0
unfolding arrange times
arrange_out from zero p l h = refl
arrange_out from (suc c) p l h = go (leb 1 (times from l)) (arrange_out (suc from) c p l (next h)) (ne h)
  where
    next : (p < from) ⊎ (from + suc c ≤ p) → (p < suc from) ⊎ (suc from + c ≤ p)
    next (inl q) = inl (omega arith)
    next (inr q) = inr (omega arith)

    ne : (p < from) ⊎ (from + suc c ≤ p) → p ≢ from
    ne (inl q) = omega arith
    ne (inr q) = omega arith

    go : (b : Bool) → times p (arrange (suc from) c l) ≡ 0 → p ≢ from → times p (cond b (from ∷ arrange (suc from) c l) (arrange (suc from) c l)) ≡ 0
    go true e q = elim (same? p from) [ same k z ↦ omega arith | other k z ↦ omega arith ]
    go false e q = e

arrange_in : (from c p : ℕ) (l : List ℕ) → NoneTwice l → from ≤ p → p < from + c → times p (arrange from c l) ≡ times p l
unfolding arrange times
arrange_in from zero p l o h k = omega arith
arrange_in from (suc c) p l o h k = go (leb 1 (times from l)) refl (same? p from) (λ (q : from < p). arrange_in (suc from) c p l o (omega arith) (omega arith))
  where
    go : (b : Bool) → leb 1 (times from l) ≡ b → Same p from → (from < p → times p (arrange (suc from) c l) ≡ times p l)
        → times p (cond b (from ∷ arrange (suc from) c l) (arrange (suc from) c l)) ≡ times p l
    go true e (same q z) ih = omega (arith, arrange_out (suc from) c p l (inl (omega arith)), o p, rw (← q) at (leb-true 1 (times from l) e))
    go true e (other q z) ih = omega (arith, ih (omega arith))
    go false e (same q z) ih = omega (arith, arrange_out (suc from) c p l (inl (omega arith)), rw (← q) at (leb-false 1 (times from l) e))
    go false e (other q z) ih = ih (omega arith)

pub arrange_alike : (n : ℕ) (l : List ℕ) → NoneTwice l → AllBelow n l → Alike (arrange 0 n l) l
arrange_alike n l o b p = elim (dec_le n p) [
  | yes h ↦ omega (arith, b p h, arrange_out 0 n p l (inr (omega arith)))
  | no h ↦ arrange_in 0 n p l o (omega arith) (omega arith)
]

pub subsets-mem : (l n k : ℕ) (s : List ℕ) → 2 ≤ k → k ≤ l → Memᴰ s (ascending k 0 n) → Memᴰ s (subsets l n)
unfolding subsets
subsets-mem zero n k s h q m = absurd (omega arith)
subsets-mem (suc zero) n k s h q m = absurd (omega arith)
subsets-mem (suc (suc l)) n k s h q m = elim (dec_le k (suc l)) [
  | yes z ↦ Memᴰ.append_right (ascending (suc (suc l)) 0 n) (subsets-mem (suc l) n k s h z m)
  | no z ↦ let e : k ≡ suc (suc l) = omega arith in Memᴰ.append_left (subsets (suc l) n) (rw e at m)
]

-- the number under which it stands
pub mem_at : (xs : List (List ℕ)) (s : List ℕ) → Memᴰ s xs → (i : ℕ) × (i < length xs) × (get_or xs i [] ≡ s)
mem_at [] s x' = elim x' [ ]
mem_at (x ∷ xs) s (Memᴰ.head e) = (0, omega arith, sym e)
mem_at (x ∷ xs) s (Memᴰ.tail m) = let r = mem_at xs s m in (suc r.0, omega (arith, r.1), r.2)

pub subset_at_lem : (l n : ℕ) (c : List ℕ) → NoneTwice c → AllBelow n c → 2 ≤ length c → length c ≤ l
    → (i : ℕ) × (get_or (subsets l n) i [] ≡ arrange 0 n c)
subset_at_lem l n c o b h k =
    let e : length (arrange 0 n c) ≡ length c = alike_length n (arrange 0 n c) c b (arrange_alike n c o b) in
    let r = mem_at (subsets l n) (arrange 0 n c) (subsets-mem l n (length (arrange 0 n c)) (arrange 0 n c) (omega arith) (omega arith) (arrange_mem 0 n c)) in
    (r.0, r.2)
