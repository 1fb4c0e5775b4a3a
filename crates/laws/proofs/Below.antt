-- Laws of `specs/Below.antt`. Assumes nothing.
use mathlib.Core.Path.{◌≡◌, refl, sym, ap, ap₂, ◌∙◌, subst}
use mathlib.Core.Bool.{Bool, true, false, ◌&&◌}
use mathlib.Core.Logic.{◌⊎◌, inl, inr}
use mathlib.Core.List.{List, [], ◌∷◌, ◌++◌, append_assoc, append-nil, map, map-append}
use Prim.Native.Nat.{ℕ, zero, suc, ◌+◌, ◌-◌, ◌≤◌, ◌<◌}
use native.Mathlib.Nat.{add-zero, add-suc}
use native.Mathlib.Numerals.{add-one}
use native.Mathlib.Omega.{arith}
use native.Mathlib.Decide.{dec_lt}
use borrow.Author.Tests.{eqb-true, eqb-false, eq-eqb, ne_eqb, ltb-true, lt-ltb, le-ltb}
use lib.Dec.{eqb, ltb}
use lib.ListN.{length, get_or, length-append, get_or-append}
use lib.Seq.{get_or_at, get_or-append-add, ext_get_or}
use Rattle.laws.specs.Below.{table, either, any_below, one, count_below, Once}

-- i < n + 1 is i < n, or n
pub below_suc : {P : ℕ → Type 0} (n : ℕ) → ((i : ℕ) → i < n → P i) → P n → (i : ℕ) → i < suc n → P i
below_suc {P} n h z i l = go (dec_lt i n)
  where
    go : Dec (i < n) → P i
    go (yes k) = h i k
    go (no k) =
        let e : n ≡ i = omega arith in
        subst P e z

-- i < n + m is i < n, or n + j with j < m
pub below_add : {P : ℕ → Type 0} (n m : ℕ) → ((i : ℕ) → i < n → P i) → ((j : ℕ) → j < m → P (n + j)) → (i : ℕ) → i < n + m → P i
below_add {P} n m f g i l = go (dec_lt i n)
  where
    go : Dec (i < n) → P i
    go (yes k) = f i k
    go (no k) =
        let e : n + (i - n) ≡ i = omega arith in
        subst P e (g (i - n) (omega arith))

-- a test that is both
pub true_false : {A : Type 0} {t : Bool} → t ≡ true → t ≡ false → A
true_false e f =
    let z : ◌≡◌ {A = ℕ} 0 1 = cc in
    absurd (omega arith)

-- both of two tests
pub and_true : (s t : Bool) → (s && t) ≡ true → (s ≡ true) × (t ≡ true)
and_true true t e = (refl, e)
and_true false t e = true_false e refl

pub and_never : (s t : Bool) → (s ≡ true → t ≡ true → ⊥) → (s && t) ≡ false
and_never true true h = absurd (h refl refl)
and_never true false h = refl
and_never false t h = refl

-- ## either

pub either_false : (s t : Bool) → either s t ≡ false → (s ≡ false) × (t ≡ false)
unfolding either
either_false true t e = true_false refl e
either_false false t e = (refl, e)

pub either-found : (s t : Bool) → either s t ≡ true → (s ≡ true) ⊎ (t ≡ true)
unfolding either
either-found true t e = inl refl
either-found false t e = inr e

pub either_true : (s : Bool) → either s true ≡ true
unfolding either
either_true true = refl
either_true false = refl

-- ## anyBelow

pub any_none : (n : ℕ) (p : ℕ → Bool) → any_below n p ≡ false → (i : ℕ) → i < n → p i ≡ false
unfolding any_below
any_none zero p e i l = absurd (omega arith)
any_none (suc n) p e i l =
    let h = either_false (any_below n p) (p n) e in
    below_suc {P = λ i. p i ≡ false} n (any_none n p h.0) h.1 i l

pub none_any : (n : ℕ) (p : ℕ → Bool) → ((i : ℕ) → i < n → p i ≡ false) → any_below n p ≡ false
unfolding any_below either
none_any zero p h = refl
none_any (suc n) p h = rw (none_any n p (λ i l. h i (omega arith)), h n (omega arith))

pub any_hit : (n : ℕ) (p : ℕ → Bool) (i : ℕ) → i < n → p i ≡ true → any_below n p ≡ true
unfolding any_below either
any_hit zero p i l e = absurd (omega arith)
any_hit (suc n) p i l e = go (λ k. any_hit n p i k e) (dec_lt i n)
  where
    go : (i < n → any_below n p ≡ true) → Dec (i < n) → either (any_below n p) (p n) ≡ true
    go r (yes k) = rw (r k)
    go r (no k) =
        let q : n ≡ i = omega arith in
        rw (ap p q ∙ e) (either_true (any_below n p))

-- where any holds, one is found
pub any_found : (n : ℕ) (p : ℕ → Bool) → any_below n p ≡ true → (i : ℕ) × (i < n) × (p i ≡ true)
unfolding any_below either
any_found zero p e = true_false e refl
any_found (suc n) p e = go (any_found n p) (any_below n p) refl e
  where
    go : (any_below n p ≡ true → (i : ℕ) × (i < n) × (p i ≡ true)) → (t : Bool) → any_below n p ≡ t → either t (p n) ≡ true
        → (i : ℕ) × (i < suc n) × (p i ≡ true)
    go r true h f = ((r h).0, omega (arith, (r h).1), (r h).2)
    go r false h f = (n, omega arith, f)

pub any_cong : (n : ℕ) (p q : ℕ → Bool) → ((i : ℕ) → i < n → p i ≡ q i) → any_below n p ≡ any_below n q
unfolding any_below
any_cong zero p q h = refl
any_cong (suc n) p q h = ap₂ either (any_cong n p q (λ i l. h i (omega arith))) (h n (omega arith))

-- a turn of a loop that looks for one
pub any_more : (n : ℕ) (p : ℕ → Bool) → any_below n p ≡ false → p n ≡ false → any_below (n + 1) p ≡ false
unfolding any_below either
any_more n p h e = rw (add-one, h, e)

-- ## countBelow

pub count_cong : (n : ℕ) (p q : ℕ → Bool) → ((i : ℕ) → i < n → p i ≡ q i) → count_below n p ≡ count_below n q
unfolding count_below
count_cong zero p q h = refl
count_cong (suc n) p q h = ap₂ (λ (a : ℕ) (t : Bool). a + one t) (count_cong n p q (λ i l. h i (omega arith))) (h n (omega arith))

-- a turn of a loop that counts
pub count_more : (n : ℕ) (p : ℕ → Bool) → count_below (n + 1) p ≡ count_below n p + one (p n)
unfolding count_below
count_more n p = ap (λ (k : ℕ). count_below k p) (add-one n)

pub count_hit : (n : ℕ) (p : ℕ → Bool) (x : ℕ) → p n ≡ true → x ≡ count_below n p → x + 1 ≡ count_below (n + 1) p
unfolding one
count_hit n p x e h = rw (count_more, e, h)

pub count_miss : (n : ℕ) (p : ℕ → Bool) (x : ℕ) → p n ≡ false → x ≡ count_below n p → x ≡ count_below (n + 1) p
unfolding one
count_miss n p x e h = rw (count_more, e, h) (sym (add-zero (count_below n p)))

-- nowhere, and only at one place
pub count_none : (n : ℕ) (p : ℕ → Bool) → ((i : ℕ) → i < n → p i ≡ false) → count_below n p ≡ 0
unfolding count_below one
count_none zero p h = refl
count_none (suc n) p h = rw (count_none n p (λ i l. h i (omega arith)), h n (omega arith))

pub none_count : (n : ℕ) (p : ℕ → Bool) → count_below n p ≡ 0 → (i : ℕ) → i < n → p i ≡ false
unfolding count_below one
none_count zero p e i l = absurd (omega arith)
none_count (suc n) p e i l = go (none_count n p) (p n) refl
  where
    go : (count_below n p ≡ 0 → (i : ℕ) → i < n → p i ≡ false) → (t : Bool) → p n ≡ t → p i ≡ false
    go r true h = absurd (omega (arith, rw h at e))
    go r false h = below_suc {P = λ i. p i ≡ false} n (r (omega arith)) h i l

-- everywhere
one-most : (t : Bool) → one t ≤ 1
unfolding one
one-most true = omega arith
one-most false = omega arith

pub count_most : (n : ℕ) (p : ℕ → Bool) → count_below n p ≤ n
unfolding count_below
count_most zero p = omega arith
count_most (suc n) p = omega (arith, count_most n p, one-most (p n))

count_all : (n : ℕ) (p : ℕ → Bool) → count_below n p ≡ n → (i : ℕ) → i < n → p i ≡ true
unfolding count_below one
count_all zero p e i l = absurd (omega arith)
count_all (suc n) p e i l = go (count_all n p) (p n) refl
  where
    go : (count_below n p ≡ n → (i : ℕ) → i < n → p i ≡ true) → (t : Bool) → p n ≡ t → p i ≡ true
    go r true h = below_suc {P = λ i. p i ≡ true} n (r (omega (arith, rw h at e))) h i l
    go r false h = absurd (omega (arith, rw h at e, count_most n p))

count_add : (n : ℕ) (p q r : ℕ → Bool) → ((i : ℕ) → one (p i) ≡ one (q i) + one (r i)) → count_below n p ≡ count_below n q + count_below n r
unfolding count_below
count_add zero p q r h = refl
count_add (suc n) p q r h = omega (arith, count_add n p q r h, h n)

-- ## Once: by counting, and without

module _ (f : ℕ → ℕ) (v : ℕ) where
  pub once_count : (n : ℕ) → Once n f v → count_below n (λ j. eqb (f j) v) ≡ 1
  unfolding count_below one
  once_count zero w = absurd (omega (arith, w.below))
  once_count (suc n) w = go (once_count n) (dec_lt w.at n)
    where
      go : (Once n f v → count_below n (λ j. eqb (f j) v) ≡ 1) → Dec (w.at < n) → count_below n (λ j. eqb (f j) v) + one (eqb (f n) v) ≡ 1
      go r (yes k) =
          let miss : eqb (f n) v ≡ false = ne_eqb (f n) v (λ e. let q : n ≡ w.at = w.only n (omega arith) e in omega arith) in
          rw (r (record { at = w.at; below = k; there = w.there; only = λ i l. w.only i (omega arith) }), miss)
      go r (no k) =
          let q : w.at ≡ n = omega (arith, w.below) in
          let hit : eqb (f n) v ≡ true = eq-eqb (f n) v (ap f (sym q) ∙ w.there) in
          let z : count_below n (λ j. eqb (f j) v) ≡ 0 =
          count_none n (λ j. eqb (f j) v)
          (λ i l. ne_eqb (f i) v (λ e. let y : i ≡ w.at = w.only i (omega arith) e in omega arith)) in
          rw (z, hit)

  pub count_once : (n : ℕ) → count_below n (λ j. eqb (f j) v) ≡ 1 → Once n f v
  unfolding count_below one
  count_once zero e = absurd (omega arith)
  count_once (suc n) e = go (count_once n) (eqb (f n) v) refl
    where
      go : (count_below n (λ j. eqb (f j) v) ≡ 1 → Once n f v) → (t : Bool) → eqb (f n) v ≡ t → Once (suc n) f v
      go r true h =
          let z : count_below n (λ j. eqb (f j) v) ≡ 0 = omega (arith, rw h at e) in
          record {
            at = n;
            below = omega arith;
            there = eqb-true (f n) v h;
            only =
                below_suc {P = λ i. f i ≡ v → i ≡ n} n
                (λ i l g. absurd (eqb-false (f i) v (none_count n (λ j. eqb (f j) v) z i l) g))
                (λ g. refl);
          }
      go r false h =
          let w = r (omega (arith, rw h at e)) in
          record {
            at = w.at;
            below = omega (arith, w.below);
            there = w.there;
            only = below_suc {P = λ i. f i ≡ v → i ≡ w.at} n w.only (λ g. absurd (eqb-false (f n) v h g));
          }

-- each of 0 .. n - 1 once among n numbers: these are all of them, and none is another
module _ (n : ℕ) (f : ℕ → ℕ) where
  below_next : (m i : ℕ) → one (ltb (f i) (suc m)) ≡ one (ltb (f i) m) + one (eqb (f i) m)
  unfolding one
  below_next m i = go (dec_lt (f i) m) (dec_lt m (f i))
    where
      go : Dec (f i < m) → Dec (m < f i) → one (ltb (f i) (suc m)) ≡ one (ltb (f i) m) + one (eqb (f i) m)
      go (yes k) w = rw (lt-ltb (f i) (suc m) (omega arith), lt-ltb (f i) m k, ne_eqb (f i) m (λ e. omega arith))
      go (no k) (yes l) = rw (le-ltb (f i) (suc m) (omega arith), le-ltb (f i) m (omega arith), ne_eqb (f i) m (λ e. omega arith))
      go (no k) (no l) = rw (lt-ltb (f i) (suc m) (omega arith), le-ltb (f i) m (omega arith), eq-eqb (f i) m (omega arith))

  count_below_lem : (m : ℕ) → ((v : ℕ) → v < m → count_below n (λ j. eqb (f j) v) ≡ 1) → count_below n (λ j. ltb (f j) m) ≡ m
  count_below_lem zero h = count_none n (λ j. ltb (f j) 0) (λ i l. le-ltb (f i) 0 (omega arith))
  count_below_lem (suc m) h =
      omega (
        arith,
        count_add n (λ j. ltb (f j) (suc m)) (λ j. ltb (f j) m) (λ j. eqb (f j) m) (below_next m),
        count_below_lem m (λ v l. h v (omega arith)),
        h m (omega arith),
      )

  pub once_below : ((v : ℕ) → v < n → Once n f v) → (j : ℕ) → j < n → f j < n
  once_below h j l = ltb-true (f j) n (count_all n (λ j. ltb (f j) n) (count_below_lem n (λ v k. once_count f v n (h v k))) j l)

-- ## table

pub length-table : {A : Type 0} (n : ℕ) (f : ℕ → A) → length (table n f) ≡ n
unfolding table
length-table zero f = refl
length-table (suc n) f = length-append (table n f) (f n ∷ []) ∙ add-one (length (table n f)) ∙ ap suc (length-table n f)

pub get_or-table : {A : Type 0} (n : ℕ) (f : ℕ → A) (d : A) (i : ℕ) → i < n → get_or (table n f) i d ≡ f i
unfolding table
get_or-table zero f d i l = absurd (omega arith)
get_or-table (suc n) f d i l =
    below_suc {P = λ i. get_or (table n f ++ (f n ∷ [])) i d ≡ f i} n
    (λ j m. get_or-append (table n f) (f n ∷ []) d j (rw length-table m) ∙ get_or-table n f d j m)
    (get_or_at (table n f) (f n) [] d n (length-table n f)) i l

pub table_cong : {A : Type 0} (n : ℕ) (f g : ℕ → A) → ((i : ℕ) → i < n → f i ≡ g i) → table n f ≡ table n g
unfolding table
table_cong zero f g h = refl
table_cong {A} (suc n) f g h = ap₂ (λ (l : List A) (a : A). l ++ (a ∷ [])) (table_cong n f g (λ i l. h i (omega arith))) (h n (omega arith))

-- a list is the table of its entries
pub table-get_or : {A : Type 0} (d : A) (l : List A) (n : ℕ) (f : ℕ → A) → length l ≡ n → ((i : ℕ) → i < n → f i ≡ get_or l i d) → table n f ≡ l
table-get_or d l n f e h =
    ext_get_or d (table n f) l (length-table n f ∙ sym e)
    (λ i k. let m : i < n = rw length-table at k in get_or-table n f d i m ∙ h i m)

-- a table in two parts
pub table_add : {A : Type 0} (a b : ℕ) (f : ℕ → A) → table (a + b) f ≡ table a f ++ table b (λ j. f (a + j))
unfolding table
table_add {A} a zero f = ap (λ (k : ℕ). table k f) (add-zero a) ∙ sym (append-nil (table a f))
table_add {A} a (suc b) f =
    ap (λ (k : ℕ). table k f) (add-suc a b)
    ∙ ap (λ (l : List A). l ++ (f (a + b) ∷ [])) (table_add a b f)
    ∙ append_assoc (table a f) (table b (λ j. f (a + j))) (f (a + b) ∷ [])

-- two tables in a row
pub length-tables : {A : Type 0} (n m : ℕ) (f g : ℕ → A) → length (table n f ++ table m g) ≡ n + m
length-tables n m f g = length-append (table n f) (table m g) ∙ ap₂ (λ (x y : ℕ). x + y) (length-table n f) (length-table m g)

module _ {A : Type 0} (n m : ℕ) (f g : ℕ → A) (d : A) where
  pub get_or_first : (i : ℕ) → i < n → get_or (table n f ++ table m g) i d ≡ f i
  get_or_first i l = get_or-append (table n f) (table m g) d i (rw length-table l) ∙ get_or-table n f d i l

  pub get_or_second : (j : ℕ) → j < m → get_or (table n f ++ table m g) (n + j) d ≡ g j
  get_or_second j l =
      ap (λ (k : ℕ). get_or (table n f ++ table m g) (k + j) d) (sym (length-table n f))
      ∙ get_or-append-add (table n f) (table m g) j d
      ∙ get_or-table m g d j l

pub map-table : {A B : Type 0} (g : A → B) (n : ℕ) (f : ℕ → A) → map g (table n f) ≡ table n (λ i. g (f i))
unfolding table
map-table g zero f = refl
map-table {A} {B} g (suc n) f = map-append g (table n f) (f n ∷ []) ∙ ap (λ (l : List B). l ++ (g (f n) ∷ [])) (map-table g n f)
