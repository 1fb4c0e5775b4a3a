-- Parts of a list, and lists joined. Assumes nothing.
use mathlib.Core.Path.{◌≡◌, refl, sym, ap, ap₂, ◌∙◌}
use mathlib.Core.List.{List, [], ◌∷◌, ◌++◌, append_assoc, append-nil, flat_map}
use Prim.Native.Nat.{ℕ, zero, suc, ◌+◌, ◌*◌, ◌≤◌, ◌<◌}
use native.Mathlib.Nat.{mul-zero, mul-suc, add_comm}
use native.Mathlib.Omega.{arith}
use lib.ListN.{length, get_or, take, drop, length-append}
use lib.Seq.{take-add, drop-drop, take_at, drop_at, take-take, take-length, drop-append-add}
use Rattle.laws.specs.Below.{table}
use Rattle.laws.proofs.Below.{length-table}

-- ## part: the k elements of b from o on

unfoldable pub part : {A : Type 0} → List A → ℕ → ℕ → List A
part b o k = take k (drop o b)

module _ {A : Type 0} where
  pub part_add : (b : List A) (o j k : ℕ) → part b o (j + k) ≡ part b o j ++ part b (o + j) k
  unfolding part
  part_add b o j k = take-add j k (drop o b) ∙ ap (λ (l : List A). take j (drop o b) ++ take k l) (drop-drop j o b)

  take_in : (a k m : ℕ) (l : List A) → a + k ≤ m → take k (drop a (take m l)) ≡ take k (drop a l)
  take_in zero k m l h = take-take k m l (omega arith)
  take_in (suc a) k zero l h = absurd (omega arith)
  take_in (suc a) k (suc m) [] h = refl
  take_in (suc a) k (suc m) (x ∷ l) h = take_in a k m l (omega arith)

  -- a part of a part
  pub part_in : (b : List A) (o m a k : ℕ) {l : List A} → part b o m ≡ l → a + k ≤ m → part b (o + a) k ≡ part l a k
  unfolding part
  part_in b o m a k {l} e h =
      ap (take k) (sym (drop-drop a o b)) ∙ sym (take_in a k m (drop o b) h) ∙ ap (λ (x : List A). take k (drop a x)) e

  pub part_at : (xs l ys : List A) (o k : ℕ) → length xs ≡ o → length l ≡ k → part (xs ++ (l ++ ys)) o k ≡ l
  unfolding part
  part_at xs l ys o k e f = rw drop_at (rw take_at)

  pub part_skip : (xs l : List A) (m o k : ℕ) → length xs ≡ m → part (xs ++ l) (m + o) k ≡ part l o k
  unfolding part
  part_skip xs l m o k e = rw (← e) (ap (take k) (drop-append-add xs l o))

  pub part_whole : (b : List A) (n : ℕ) → n ≡ length b → part b 0 n ≡ b
  unfolding part
  part_whole b n e = rw e (take-length b)

-- ## flat_map over a table

module _ {A B : Type 0} (g : A → List B) where
  pub flat_map_append : (k l : List A) → flat_map g (k ++ l) ≡ flat_map g k ++ flat_map g l
  unfolding flat_map
  flat_map_append [] l = refl
  flat_map_append (x ∷ k) l = ap (λ (r : List B). g x ++ r) (flat_map_append k l) ∙ sym (append_assoc (g x) (flat_map g k) (flat_map g l))

  pub flat_map_suc : (f : ℕ → A) (n : ℕ) → flat_map g (table (suc n) f) ≡ flat_map g (table n f) ++ g (f n)
  unfolding table flat_map
  flat_map_suc f n = flat_map_append (table n f) (f n ∷ []) ∙ ap (λ (r : List B). flat_map g (table n f) ++ r) (append-nil (g (f n)))

  -- pieces of m elements each
  module _ (m : ℕ) (h : (a : A) → length (g a) ≡ m) where
    pub length_flat_map : (l : List A) → length (flat_map g l) ≡ m * length l
    unfolding flat_map
    length_flat_map [] = sym (mul-zero m)
    length_flat_map (x ∷ l) = rw (length-append, h x, length_flat_map l, mul-suc) (add_comm m (m * length l))

    pub length_flat_map_table : (n : ℕ) (f : ℕ → A) → length (flat_map g (table n f)) ≡ m * n
    length_flat_map_table n f = length_flat_map (table n f) ∙ ap (λ (k : ℕ). m * k) (length-table n f)

    -- the i-th piece
    pub part_flat_map : (d : A) (l : List A) (ys : List B) (i : ℕ) → i < length l → part (flat_map g l ++ ys) (m * i) m ≡ g (get_or l i d)
    unfolding flat_map
    part_flat_map d [] ys i k = absurd (omega arith)
    part_flat_map d (x ∷ l) ys zero k =
        rw (append_assoc, mul-zero) (part_at [] (g x) (flat_map g l ++ ys) 0 m refl (h x))
    part_flat_map d (x ∷ l) ys (suc i) k =
        rw (append_assoc, mul-suc, add_comm (m * i) m)
        (part_skip (g x) (flat_map g l ++ ys) m (m * i) m (h x) ∙ part_flat_map d l ys i (omega arith))

    -- pieces that stand in a row in b, joined
    pub flat_map_part : (b : List B) (o n : ℕ) (f : ℕ → A) → ((i : ℕ) → i < n → g (f i) ≡ part b (o + m * i) m) → flat_map g (table n f) ≡ part b o (m * n)
    unfolding table flat_map part
    flat_map_part b o zero f e = ap (λ (k : ℕ). take k (drop o b)) (sym (mul-zero m))
    flat_map_part b o (suc n) f e =
        flat_map_suc f n
        ∙ ap₂ (λ (x y : List B). x ++ y) (flat_map_part b o n f (λ i l. e i (omega arith))) (e n (omega arith))
        ∙ sym (part_add b o (m * n) m)
        ∙ ap (λ (k : ℕ). part b o k) (sym (mul-suc m n))
