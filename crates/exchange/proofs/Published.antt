-- The published order is what `Published` says. Assumes nothing.
use Prim.Native.Nat.{ℕ, zero, suc, ◌+◌, ◌≤◌, ◌<◌}
use mathlib.Core.Bool.{Bool, true, false, cond}
use mathlib.Core.List.Memᴰ
use mathlib.Core.List.{List, [], ◌∷◌, ◌++◌, map, Memᴰ}
use mathlib.Core.Path.{◌≡◌, refl, sym, ap, subst}
use native.Mathlib.Omega.{arith}
use native.Mathlib.Decide.{dec_lt}
use lib.Dec.{ltb}
use lib.ListN.{length, get_or}
use borrow.Author.Tests.{ltb-true, ltb-false}
use Rattle.exchange.specs.Subsets.{ascending, subsets, each_first, orders, cycles, first_of, heaviest}
use Rattle.exchange.specs.Published.{Rising, here, there, Precedes, larger, earlier, Sorted, PublishedOrder, CyclesOfTwo, CyclesOfTriple, FirstOfGreatest, HeaviestIsFirst}
use Rattle.exchange.specs.Rivals.{Each}
use Rattle.exchange.proofs.Ordered.{mem-map, each_append, each_map, each_mono, subsets-mem}

-- a rising list of k places from p on, below b
record Listed (p b k : ℕ) (s : List ℕ) : Type 0 where
  rising : Rising b s
  size : length s ≡ k
  start : (q : ℕ) (t : List ℕ) → s ≡ q ∷ t → p ≤ q

head_same : (a b : ℕ) (s t : List ℕ) → ◌≡◌ {A = List ℕ} (a ∷ s) (b ∷ t) → a ≡ b
head_same a b s t e = cc

rising_cons : (b p : ℕ) (s : List ℕ) → p < b → ((q : ℕ) (t : List ℕ) → s ≡ q ∷ t → p < q) → Rising b s → Rising b (p ∷ s)
rising_cons b p [] h g r = h
rising_cons b p (q ∷ t) h g r = (g q t refl, r)

listed : (k p c : ℕ) → Each (Listed p (p + c) k) (ascending k p c)
unfolding ascending
listed zero p c = (record { rising = tt; size = refl; start = λ q t e. let z : ◌≡◌ {A = ℕ} 0 1 = cc in absurd (omega arith) }, tt)
listed (suc k) p zero = tt
listed (suc k) p (suc c) =
    each_append (Listed p (p + suc c) (suc k)) (map (λ (s : List ℕ). p ∷ s) (ascending k (suc p) c)) (ascending (suc k) (suc p) c)
    (each_map (Listed (suc p) (suc p + c) k) (Listed p (p + suc c) (suc k)) (λ (s : List ℕ). p ∷ s) first (ascending k (suc p) c) (listed k (suc p) c))
    (each_mono (Listed (suc p) (suc p + c) (suc k)) (Listed p (p + suc c) (suc k)) later (ascending (suc k) (suc p) c) (listed (suc k) (suc p) c))
  where
    bound : suc p + c ≡ p + suc c
    bound = omega arith

    first : (s : List ℕ) → Listed (suc p) (suc p + c) k s → Listed p (p + suc c) (suc k) (p ∷ s)
    first s h = record {
      rising = rising_cons (p + suc c) p s (omega arith) (λ q t e. omega (arith, h.start q t e)) (rw bound at h.rising);
      size = ap suc h.size;
      start = λ q t e. omega (arith, head_same p q s t e);
    }

    later : (s : List ℕ) → Listed (suc p) (suc p + c) (suc k) s → Listed p (p + suc c) (suc k) s
    later s h = record { rising = rw bound at h.rising; size = h.size; start = λ q t e. omega (arith, h.start q t e) }

-- ---- sorted

sorted_append : (ss us : List (List ℕ)) → Sorted ss → Sorted us → Each (λ (s : List ℕ). Each (λ (u : List ℕ). Precedes s u) us) ss → Sorted (ss ++ us)
sorted_append [] us h g e = g
sorted_append (s ∷ ss) us h g e = (each_append (λ (u : List ℕ). Precedes s u) ss us h.0 e.0, sorted_append ss us h.1 g e.1)

precedes_cons : (p : ℕ) (s t : List ℕ) → Precedes s t → Precedes (p ∷ s) (p ∷ t)
precedes_cons p s t (larger h) = larger (omega arith)
precedes_cons p s t (earlier e h) = earlier (ap suc e) (there h)

sorted_cons : (p : ℕ) (ss : List (List ℕ)) → Sorted ss → Sorted (map (λ (s : List ℕ). p ∷ s) ss)
sorted_cons p [] h = tt
sorted_cons p (s ∷ ss) h =
    (each_map (λ (t : List ℕ). Precedes s t) (λ (t : List ℕ). Precedes (p ∷ s) t) (λ (t : List ℕ). p ∷ t) (precedes_cons p s) ss h.0, sorted_cons p ss h.1)

earlier_start : (k p b : ℕ) (s t : List ℕ) → length s ≡ k → Listed (suc p) b (suc k) t → Precedes (p ∷ s) t
earlier_start k p b s [] e h = absurd (omega (arith, h.size))
earlier_start k p b s (q ∷ t) e h = earlier (omega (arith, h.size)) (here (h.start q t refl))

sorted_ascending : (k p c : ℕ) → Sorted (ascending k p c)
unfolding ascending
sorted_ascending zero p c = (tt, tt)
sorted_ascending (suc k) p zero = tt
sorted_ascending (suc k) p (suc c) =
    sorted_append (map (λ (s : List ℕ). p ∷ s) (ascending k (suc p) c)) (ascending (suc k) (suc p) c)
    (sorted_cons p (ascending k (suc p) c) (sorted_ascending k (suc p) c)) (sorted_ascending (suc k) (suc p) c)
    (each_map (Listed (suc p) (suc p + c) k) (λ (s : List ℕ). Each (λ (u : List ℕ). Precedes s u) (ascending (suc k) (suc p) c)) (λ (s : List ℕ). p ∷ s)
    (λ s h. each_mono (Listed (suc p) (suc p + c) (suc k)) (λ (u : List ℕ). Precedes (p ∷ s) u) (λ t g. earlier_start k p (suc p + c) s t h.size g)
    (ascending (suc k) (suc p) c) (listed (suc k) (suc p) c))
    (ascending k (suc p) c) (listed k (suc p) c))

-- ---- all

rising_mem : (s : List ℕ) (p c : ℕ) → Rising (p + c) s → ((q : ℕ) (t : List ℕ) → s ≡ q ∷ t → p ≤ q) → Memᴰ s (ascending (length s) p c)
unfolding ascending
rising_mem s p zero r h = go s r h
  where
    go : (s : List ℕ) → Rising (p + 0) s → ((q : ℕ) (t : List ℕ) → s ≡ q ∷ t → p ≤ q) → Memᴰ s (ascending (length s) p 0)
    go [] r h = Memᴰ.head refl
    go (q ∷ []) r h = absurd (omega (arith, h q [] refl))
    go (q ∷ u ∷ t) r h = absurd (omega (arith, h q (u ∷ t) refl, last u t r.1, r.0))
      where
        last : (u : ℕ) (t : List ℕ) → Rising (p + 0) (u ∷ t) → u < p + 0
        last u [] r = r
        last u (v ∷ t) r = omega (arith, r.0, last v t r.1)
rising_mem s p (suc c) r h = go s r h (λ t e g. rising_mem t (suc p) c e g)
  where
    bound : suc p + c ≡ p + suc c
    bound = omega arith

    tail : (q : ℕ) (t : List ℕ) → Rising (p + suc c) (q ∷ t) → Rising (suc p + c) t
    tail q [] r = tt
    tail q (u ∷ t) r = subst (λ x. Rising x (u ∷ t)) (sym bound) r.1

    next : (q : ℕ) (t : List ℕ) → Rising (p + suc c) (q ∷ t) → (u : ℕ) (v : List ℕ) → t ≡ u ∷ v → q < u
    next q [] r u v e = let z : ◌≡◌ {A = ℕ} 0 1 = cc in absurd (omega arith)
    next q (x ∷ t) r u v e = omega (arith, r.0, head_same x u t v e)

    go : (s : List ℕ) → Rising (p + suc c) s → ((q : ℕ) (t : List ℕ) → s ≡ q ∷ t → p ≤ q)
        → ((t : List ℕ) → Rising (suc p + c) t → ((q : ℕ) (u : List ℕ) → t ≡ q ∷ u → suc p ≤ q) → Memᴰ t (ascending (length t) (suc p) c))
        → Memᴰ s (ascending (length s) p (suc c))
    go [] r h ih = Memᴰ.head refl
    go (q ∷ t) r h ih = elim (dec_lt p q) [
      | yes z ↦ Memᴰ.append_right (map (λ (s : List ℕ). p ∷ s) (ascending (length t) (suc p) c))
          (ih (q ∷ t) (subst (λ x. Rising x (q ∷ t)) (sym bound) r) (λ u v e. omega (arith, head_same q u t v e)))
      | no z ↦
          let e : q ≡ p = omega (arith, h q t refl) in
          let k : Memᴰ (p ∷ t) (map (λ (s : List ℕ). p ∷ s) (ascending (length t) (suc p) c)) =
          mem-map (λ (s : List ℕ). p ∷ s) (ih t (tail q t r) (λ u v d. omega (arith, next q t r u v d))) in
          rw e (Memᴰ.append_left (ascending (suc (length t)) (suc p) c) k)
    ]

-- ---- the subsets

subsets_rising : (l n : ℕ) → Each (λ (s : List ℕ). Rising n s × (2 ≤ length s) × (length s ≤ l)) (subsets l n)
unfolding subsets
subsets_rising zero n = tt
subsets_rising (suc zero) n = tt
subsets_rising (suc (suc k)) n =
    each_append (λ (s : List ℕ). Rising n s × (2 ≤ length s) × (length s ≤ suc (suc k))) (ascending (suc (suc k)) 0 n) (subsets (suc k) n)
    (each_mono (Listed 0 (0 + n) (suc (suc k))) (λ (s : List ℕ). Rising n s × (2 ≤ length s) × (length s ≤ suc (suc k)))
    (λ s h. (rw zero_n at h.rising, omega (arith, h.size), omega (arith, h.size))) (ascending (suc (suc k)) 0 n) (listed (suc (suc k)) 0 n))
    (each_mono (λ (s : List ℕ). Rising n s × (2 ≤ length s) × (length s ≤ suc k)) (λ (s : List ℕ). Rising n s × (2 ≤ length s) × (length s ≤ suc (suc k)))
    (λ s h. (h.0, h.1, omega arith)) (subsets (suc k) n) (subsets_rising (suc k) n))
  where
    zero_n : 0 + n ≡ n
    zero_n = omega arith

subsets_sorted : (l n : ℕ) → Sorted (subsets l n)
unfolding subsets
subsets_sorted zero n = tt
subsets_sorted (suc zero) n = tt
subsets_sorted (suc (suc k)) n =
    sorted_append (ascending (suc (suc k)) 0 n) (subsets (suc k) n) (sorted_ascending (suc (suc k)) 0 n) (subsets_sorted (suc k) n)
    (each_mono (Listed 0 (0 + n) (suc (suc k))) (λ (s : List ℕ). Each (λ (u : List ℕ). Precedes s u) (subsets (suc k) n))
    (λ s h. each_mono (λ (u : List ℕ). Rising n u × (2 ≤ length u) × (length u ≤ suc k)) (λ (u : List ℕ). Precedes s u)
    (λ u g. larger (omega (arith, h.size))) (subsets (suc k) n) (subsets_rising (suc k) n))
    (ascending (suc (suc k)) 0 n) (listed (suc (suc k)) 0 n))

pub published : PublishedOrder
published l n = record {
  rising = subsets_rising l n;
  sorted = subsets_sorted l n;
  all = λ s r h k. subsets-mem l n (length s) s h k (rising_mem s 0 n (rw zero_n r) (λ q t e. omega arith));
}
  where
    zero_n : 0 + n ≡ n
    zero_n = omega arith

pub cycles_of_two : CyclesOfTwo
unfolding cycles orders each_first
cycles_of_two u v = refl

pub cycles_of_triple : CyclesOfTriple
unfolding cycles orders each_first
cycles_of_triple u v w = refl

-- ## The first of greatest weight

module _ (weight : List ℕ → ℕ) where
  -- one more before those that were compared
  later : (a b : List ℕ) (bs : List (List ℕ)) (c : List ℕ) → weight a < weight b → FirstOfGreatest weight (b ∷ bs) c → FirstOfGreatest weight (a ∷ b ∷ bs) c
  later a b bs c h r =
      record {
        at = suc r.at;
        within = omega (arith, r.within);
        there = r.there;
        greatest = λ i k. go i k;
        first = λ i k. before i k;
      }
    where
      go : (i : ℕ) → i < length (a ∷ b ∷ bs) → weight (get_or (a ∷ b ∷ bs) i []) ≤ weight c
      go zero k = omega (arith, r.greatest 0 (omega arith))
      go (suc i) k = r.greatest i (omega arith)

      before : (i : ℕ) → i < suc r.at → weight (get_or (a ∷ b ∷ bs) i []) < weight c
      before zero k = omega (arith, r.greatest 0 (omega arith))
      before (suc i) k = r.first i (omega arith)

  -- one more after the first of those
  kept : (a b : List ℕ) (bs : List (List ℕ)) (c : List ℕ) → weight b ≤ weight a → (at : ℕ) → at < length (a ∷ bs) → get_or (a ∷ bs) at [] ≡ c
      → ((i : ℕ) → i < length (a ∷ bs) → weight (get_or (a ∷ bs) i []) ≤ weight c)
      → ((i : ℕ) → i < at → weight (get_or (a ∷ bs) i []) < weight c)
      → FirstOfGreatest weight (a ∷ b ∷ bs) c
  kept a b bs c h zero w e g f =
      record { at = 0; within = omega arith; there = e; greatest = λ i k. go i k; first = λ i k. absurd (omega arith) }
    where
      go : (i : ℕ) → i < length (a ∷ b ∷ bs) → weight (get_or (a ∷ b ∷ bs) i []) ≤ weight c
      go zero k = g 0 (omega arith)
      go (suc zero) k = omega (arith, g 0 (omega arith))
      go (suc (suc i)) k = g (suc i) (omega arith)
  kept a b bs c h (suc at) w e g f =
      record { at = suc (suc at); within = omega arith; there = e; greatest = λ i k. go i k; first = λ i k. before i k }
    where
      go : (i : ℕ) → i < length (a ∷ b ∷ bs) → weight (get_or (a ∷ b ∷ bs) i []) ≤ weight c
      go zero k = g 0 (omega arith)
      go (suc zero) k = omega (arith, g 0 (omega arith))
      go (suc (suc i)) k = g (suc i) (omega arith)

      before : (i : ℕ) → i < suc (suc at) → weight (get_or (a ∷ b ∷ bs) i []) < weight c
      before zero k = f 0 (omega arith)
      before (suc zero) k = omega (arith, f 0 (omega arith))
      before (suc (suc i)) k = f (suc i) (omega arith)

  first_of_lem : (a : List ℕ) (bs : List (List ℕ)) → FirstOfGreatest weight (a ∷ bs) (first_of weight a bs)
  unfolding first_of
  first_of_lem a [] =
      record { at = 0; within = omega arith; there = refl; greatest = λ i k. only i k; first = λ i k. absurd (omega arith) }
    where
      only : (i : ℕ) → i < 1 → weight (get_or (a ∷ []) i []) ≤ weight a
      only zero k = omega arith
      only (suc i) k = absurd (omega arith)
  first_of_lem a (b ∷ bs) = go (ltb (weight a) (weight b)) refl (first_of_lem a bs) (first_of_lem b bs)
    where
      go : (t : Bool) → ltb (weight a) (weight b) ≡ t → FirstOfGreatest weight (a ∷ bs) (first_of weight a bs)
          → FirstOfGreatest weight (b ∷ bs) (first_of weight b bs) → FirstOfGreatest weight (a ∷ b ∷ bs) (first_of weight (cond t b a) bs)
      go true e r s = later a b bs _ (ltb-true _ _ e) s
      go false e r s = kept a b bs _ (ltb-false _ _ e) r.at r.within r.there r.greatest r.first

pub heaviest_is_first : HeaviestIsFirst
unfolding heaviest
heaviest_is_first weight c cs = first_of_lem weight c cs
