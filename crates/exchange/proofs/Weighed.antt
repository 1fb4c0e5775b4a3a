-- A cycle weighs the same from any of its pairs on; a subset's best cycle weighs no less than any cycle of its places. Assumes nothing.
use Prim.Native.Nat.{ℕ, zero, suc, ◌+◌, ◌*◌, ◌≤◌}
use mathlib.Core.Bool.{Bool, true, false, cond}
use mathlib.Core.List.Memᴰ
use mathlib.Core.List.{List, [], ◌∷◌, ◌++◌, map, append_assoc, append-nil, Memᴰ}
use mathlib.Core.Path.{◌≡◌, refl, sym, ap, ap₂, ◌∙◌}
use native.Mathlib.Omega.{arith}
use native.Mathlib.Nat.{mul_assoc, mul_comm, add_comm}
use lib.Dec.{ltb}
use lib.ListN.{length, length-append}
use borrow.Author.Tests.{ltb-true, ltb-false}
use Rattle.greedy.proofs.Counts.{times, Alike, one_same, split_at, times_append, times_cons}
use Rattle.exchange.specs.Subsets.{each_first, orders, cycles, along, edges, product_of, sum_of, weigh, first_of, heaviest}
use Rattle.exchange.specs.Rivals.{Each}
use Rattle.exchange.proofs.Ordered.{mem-map, each_append, each_map, each_mono}

-- the way round a cycle, back to its first
abbrev round : List ℕ → List ℕ
round [] = []
round (a ∷ c) = a ∷ c ++ (a ∷ [])

-- ---- the same cycle from another of its pairs on weighs the same

product_split : (m : ℕ → ℕ → ℕ) (xs : List ℕ) (b : ℕ) (ys : List ℕ)
    → product_of m (along (xs ++ b ∷ ys)) ≡ product_of m (along (xs ++ b ∷ [])) * product_of m (along (b ∷ ys))
unfolding product_of along
product_split m [] b ys = omega arith
product_split m (a ∷ []) b ys = omega arith
product_split m (a ∷ c ∷ xs) b ys = ap (λ (z : ℕ). m a c * z) (product_split m (c ∷ xs) b ys) ∙ sym (mul_assoc (m a c) _ _)

sum_split : (w : ℕ → ℕ → ℕ) (xs : List ℕ) (b : ℕ) (ys : List ℕ)
    → sum_of w (along (xs ++ b ∷ ys)) ≡ sum_of w (along (xs ++ b ∷ [])) + sum_of w (along (b ∷ ys))
unfolding sum_of along
sum_split w [] b ys = omega arith
sum_split w (a ∷ []) b ys = omega arith
sum_split w (a ∷ c ∷ xs) b ys = omega (arith, sum_split w (c ∷ xs) b ys)

-- the way round from a, over u
round_split : (a : ℕ) (xs : List ℕ) (u : ℕ) (ys : List ℕ) → round (a ∷ (xs ++ u ∷ ys)) ≡ (a ∷ xs) ++ u ∷ (ys ++ a ∷ [])
round_split a xs u ys = ap (λ (l : List ℕ). a ∷ l) (append_assoc xs (u ∷ ys) (a ∷ []))

pub weigh_rotate : (m w : ℕ → ℕ → ℕ) (xs : List ℕ) (u : ℕ) (ys : List ℕ) → weigh m w (xs ++ u ∷ ys) ≡ weigh m w (u ∷ (ys ++ xs))
unfolding weigh edges
weigh_rotate m w [] u ys = ap (λ (l : List ℕ). weigh m w (u ∷ l)) (sym (append-nil ys))
weigh_rotate m w (a ∷ xs) u ys = ap₂ ◌*◌ products sums
  where
    products : product_of m (along (round (a ∷ (xs ++ u ∷ ys)))) ≡ product_of m (along (round (u ∷ (ys ++ a ∷ xs))))
    products = ap (λ (l : List ℕ). product_of m (along l)) (round_split a xs u ys) ∙ product_split m (a ∷ xs) u (ys ++ a ∷ []) ∙ mul_comm _ _
        ∙ sym (product_split m (u ∷ ys) a (xs ++ u ∷ [])) ∙ ap (λ (l : List ℕ). product_of m (along l)) (sym (round_split u ys a xs))

    sums : sum_of w (along (round (a ∷ (xs ++ u ∷ ys)))) ≡ sum_of w (along (round (u ∷ (ys ++ a ∷ xs))))
    sums = ap (λ (l : List ℕ). sum_of w (along l)) (round_split a xs u ys) ∙ sum_split w (a ∷ xs) u (ys ++ a ∷ []) ∙ add_comm _ _
        ∙ sym (sum_split w (u ∷ ys) a (xs ++ u ∷ [])) ∙ ap (λ (l : List ℕ). sum_of w (along l)) (sym (round_split u ys a xs))

-- ---- every order of t's numbers is among `orders`

mem-each_first : (g : List ℕ → List (List ℕ)) (x : ℕ) (c before xs ys : List ℕ) → Memᴰ c (g (before ++ (xs ++ ys)))
    → Memᴰ (x ∷ c) (each_first g before (xs ++ x ∷ ys))
unfolding each_first
mem-each_first g x c before [] ys m = Memᴰ.append_left (each_first g (before ++ x ∷ []) ys) (mem-map (λ (l : List ℕ). x ∷ l) m)
mem-each_first g x c before (z ∷ xs) ys m =
    Memᴰ.append_right (map (λ (l : List ℕ). z ∷ l) (g (before ++ (xs ++ x ∷ ys)))) (mem-each_first g x c (before ++ z ∷ []) xs ys (rw (append_assoc before (z ∷ []) (xs ++ ys)) m))

pub mem-orders : (k : ℕ) (c t : List ℕ) → length c ≡ k → Alike c t → Memᴰ c (orders k t)
unfolding orders times
mem-orders zero [] t e h = Memᴰ.head refl
mem-orders zero (x ∷ c) t e h = absurd (omega arith)
mem-orders (suc k) [] t e h = absurd (omega arith)
mem-orders (suc k) (x ∷ c) t e h = go (split_at x t (omega (arith, h x, one_same x))) (λ l. mem-orders k c l (omega arith))
  where
    go : (a : List ℕ) × (b : List ℕ) × (t ≡ a ++ x ∷ b) → ((l : List ℕ) → Alike c l → Memᴰ c (orders k l))
        → Memᴰ (x ∷ c) (each_first (λ l. orders k l) [] t)
    go (a, b, q) ih = rw q (mem-each_first (λ l. orders k l) x c [] a b (ih (a ++ b) (λ p. omega (arith, h p, rw q at (h p), times_append p a (x ∷ b), times_append p a b))))

-- ---- the heaviest is as heavy as each

first_of_first : (g : List ℕ → ℕ) (c : List ℕ) (ds : List (List ℕ)) → g c ≤ g (first_of g c ds)
unfolding first_of
first_of_first g c [] = omega arith
first_of_first g c (d ∷ ds) = go (ltb (g c) (g d)) refl (first_of_first g (cond (ltb (g c) (g d)) d c) ds)
  where
    go : (b : Bool) → ltb (g c) (g d) ≡ b → g (cond b d c) ≤ g (first_of g (cond b d c) ds) → g c ≤ g (first_of g (cond b d c) ds)
    go true e h = omega (arith, ltb-true (g c) (g d) e)
    go false e h = h

first_of_each : (g : List ℕ → ℕ) (c : List ℕ) (ds : List (List ℕ)) (x : List ℕ) → Memᴰ x ds → g x ≤ g (first_of g c ds)
unfolding first_of
first_of_each g c [] x x3 = elim x3 [ ]
first_of_each g c (d ∷ ds) x (Memᴰ.head e) = go (ltb (g c) (g d)) refl (first_of_first g (cond (ltb (g c) (g d)) d c) ds)
  where
    go : (b : Bool) → ltb (g c) (g d) ≡ b → g (cond b d c) ≤ g (first_of g (cond (ltb (g c) (g d)) d c) ds)
        → g x ≤ g (first_of g (cond (ltb (g c) (g d)) d c) ds)
    go true q h = rw e h
    go false q h = rw e (omega (arith, ltb-false (g c) (g d) q))
first_of_each g c (d ∷ ds) x (Memᴰ.tail m) = first_of_each g (cond (ltb (g c) (g d)) d c) ds x m

pub heaviest_each : (g : List ℕ → ℕ) (cs : List (List ℕ)) (x : List ℕ) → Memᴰ x cs → g x ≤ g (heaviest g cs)
unfolding heaviest
heaviest_each g [] x x3 = elim x3 [ ]
heaviest_each g (c ∷ cs) x (Memᴰ.head e) = rw e (first_of_first g c cs)
heaviest_each g (c ∷ cs) x (Memᴰ.tail m) = first_of_each g c cs x m

-- ---- the cycles of a subset hold its places, each as often; and so does the heaviest

each_each_first : (g : List ℕ → List (List ℕ)) (k : ℕ) → ((l : List ℕ) → length l ≡ k → Each (λ (c : List ℕ). Alike c l) (g l))
    → (before t : List ℕ) → length before + length t ≡ suc k → Each (λ (c : List ℕ). Alike c (before ++ t)) (each_first g before t)
unfolding each_first
each_each_first g k h before [] e = tt
each_each_first g k h before (x ∷ t) e =
    each_append (λ (c : List ℕ). Alike c (before ++ x ∷ t)) (map (λ (l : List ℕ). x ∷ l) (g (before ++ t))) (each_first g (before ++ x ∷ []) t)
    (each_map (λ (c : List ℕ). Alike c (before ++ t)) (λ (c : List ℕ). Alike c (before ++ x ∷ t)) (λ (l : List ℕ). x ∷ l) first (g (before ++ t)) (h (before ++ t) (omega (arith, length-append before t))))
    (each_mono (λ (c : List ℕ). Alike c ((before ++ x ∷ []) ++ t)) (λ (c : List ℕ). Alike c (before ++ x ∷ t)) later (each_first g (before ++ x ∷ []) t)
    (each_each_first g k h (before ++ x ∷ []) t (omega (arith, length-append before (x ∷ [])))))
  where
    first : (c : List ℕ) → Alike c (before ++ t) → Alike (x ∷ c) (before ++ x ∷ t)
    first c q p = omega (arith, q p, times_append p before t, times_append p before (x ∷ t), times_cons p x t, times_cons p x c)

    later : (c : List ℕ) → Alike c ((before ++ x ∷ []) ++ t) → Alike c (before ++ x ∷ t)
    later c q p = rw append_assoc at (q p)

each_order : (k : ℕ) (t : List ℕ) → length t ≡ k → Each (λ (c : List ℕ). Alike c t) (orders k t)
unfolding orders
each_order zero [] e = ((λ p. refl), tt)
each_order zero (x ∷ t) e = absurd (omega arith)
each_order (suc k) t e = each_each_first (λ l. orders k l) k (λ l q. each_order k l q) [] t (omega arith)

pub each_cycle : (t : List ℕ) → Each (λ (c : List ℕ). Alike c t) (cycles t)
unfolding cycles
each_cycle [] = tt
each_cycle (u ∷ t) = each_map (λ (c : List ℕ). Alike c t) (λ (c : List ℕ). Alike c (u ∷ t)) (λ (l : List ℕ). u ∷ l)
    (λ c h p. omega (arith, h p, times_cons p u t, times_cons p u c)) (orders (length t) t) (each_order (length t) t refl)

pub each_first_of : (P : List ℕ → Type 0) (g : List ℕ → ℕ) (c : List ℕ) (ds : List (List ℕ)) → P c → Each P ds → P (first_of g c ds)
unfolding first_of
each_first_of P g c [] h k = h
each_first_of P g c (d ∷ ds) h k = each_first_of P g (cond (ltb (g c) (g d)) d c) ds (go (ltb (g c) (g d))) k.1
  where
    go : (b : Bool) → P (cond b d c)
    go true = k.0
    go false = h

pub each_heaviest : (P : List ℕ → Type 0) (g : List ℕ → ℕ) (cs : List (List ℕ)) (x : List ℕ) → Memᴰ x cs → Each P cs → P (heaviest g cs)
unfolding heaviest
each_heaviest P g [] x m h = absurd (Memᴰ.not-nil m)
each_heaviest P g (c ∷ cs) x m h = each_first_of P g c cs h.0 h.1

pub heaviest_alike : (g : List ℕ → ℕ) (t : List ℕ) → Alike (heaviest g (cycles t)) t
unfolding cycles heaviest
heaviest_alike g [] = λ p. refl
heaviest_alike g (u ∷ t) = each_heaviest (λ (c : List ℕ). Alike c (u ∷ t)) g (cycles (u ∷ t)) (u ∷ t)
    (mem-map (λ (l : List ℕ). u ∷ l) (mem-orders (length t) t t refl (λ p. refl))) (each_cycle (u ∷ t))
