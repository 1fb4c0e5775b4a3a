-- How many donors suit each patient: the ones in a column of M, where a pair goes too, and what comes to so many. Assumes nothing.
use mathlib.Core.Path.{◌≡◌, refl, sym, ap, ap₂, subst, ◌∙◌}
use mathlib.Core.Bool.{Bool, true, false}
use mathlib.Core.List.{List}
use mathlib.Core.Logic.{◌↔◌}
use Prim.Native.Nat.{ℕ, zero, suc, ◌+◌, ◌-◌, ◌*◌, ◌≤◌, ◌<◌}
use native.Mathlib.Nat.{add-zero}
use native.Mathlib.Numerals.{add-one}
use native.Mathlib.Omega.{arith}
use native.Mathlib.Decide.{dec_lt}
use borrow.Author.Tests.{eqb-true, eq-eqb}
use lib.Dec.{eqb}
use lib.ListN.{length}
use Rattle.laws.specs.Below.{count_below, one}
use Rattle.laws.proofs.Below.{length-table, true_false, count_cong}
use Rattle.laws.proofs.Lent.{filled_at}
use Rattle.pool.specs.Tables.{item_in}
use Rattle.weighing.specs.Promises.{entry_at}
use Rattle.live.specs.Calls.{up, without_row}
use Rattle.live.specs.Suitable.{ones_in, with_numbers}
use Rattle.live.specs.Faultless.{HowMany}
use Rattle.live.specs.Promises.{PastKept, NoOtherNumber}
use Rattle.live.proofs.Tables.{filled_kept, up_before, up_from, row_moved}

-- ## In a table's first entries

module _ (n : ℕ) (m t : List ℕ) where
  pub numbers_there : (j : ℕ) → j < n → item_in (with_numbers n m t) j ≡ ones_in n m j
  unfolding with_numbers
  numbers_there j l = filled_at n (ones_in n m) t _ refl j l

  pub numbers_past : n ≤ length t → PastKept n t (with_numbers n m t)
  unfolding with_numbers
  numbers_past l = filled_kept _ t n (length-table n (ones_in n m)) l

-- ## Where a pair goes

-- one of them out
count_without : (n : ℕ) (p : ℕ → Bool) (a : ℕ) → a ≤ n → count_below (suc n) p ≡ count_below n (λ i. p (up a i)) + one (p a)
unfolding count_below
count_without zero p a l =
    let e : 0 ≡ a = omega arith in
    ap (λ (k : ℕ). 0 + one (p k)) e
count_without (suc n) p a l = go (count_without n p a) (dec_lt n a)
  where
    go : (a ≤ n → count_below (suc n) p ≡ count_below n (λ i. p (up a i)) + one (p a)) → Dec (n < a)
        → count_below (suc n) p + one (p (suc n)) ≡ count_below n (λ i. p (up a i)) + one (p (up a n)) + one (p a)
    go r (yes k) =
        let e : suc n ≡ a = omega arith in
        ap₂ (λ (x y : ℕ). x + y) (sym (count_cong (suc n) (λ i. p (up a i)) p (λ i h. ap p (up_before a i (omega arith))))) (ap (λ (k : ℕ). one (p k)) e)
    go r (no k) =
        let e : one (p (up a n)) ≡ one (p (suc n)) = ap (λ (k : ℕ). one (p k)) (up_from a n (omega arith) ∙ omega arith) in
        omega (arith, e, r (omega arith))

-- the ones in the column that patient j had before are those in its column now, and one more where the donor that goes suits
pub ones_without : (a n : ℕ) (m : List ℕ) (j : ℕ) → a < n → j < n - 1
    → ones_in n m (up a j) ≡ ones_in (n - 1) (without_row a n m) j + one (eqb (item_in m (a * n + up a j)) 1)
unfolding ones_in
ones_without a n m j h l =
    let p : ℕ → Bool = λ i. eqb (item_in m (i * n + up a j)) 1 in
    let e : n ≡ suc (n - 1) = omega arith in
    let same : count_below (n - 1) (λ i. p (up a i)) ≡ ones_in (n - 1) (without_row a n m) j =
    count_cong (n - 1) _ _ (λ i k. ap (λ (x : ℕ). eqb x 1) (sym (row_moved a n m i j k l))) in
    ap (λ (k : ℕ). count_below k p) e
    ∙ count_without (n - 1) p a (omega arith)
    ∙ ap (λ (x : ℕ). x + one (p a)) same

-- ## So many

how_many_lem : (P : ℕ → Type 0) (p : ℕ → Bool) (n : ℕ) → ((i : ℕ) → i < n → (p i ≡ true) ↔ P i) → HowMany P n (count_below n p)
unfolding count_below one
how_many_lem P p zero h = HowMany.empty
how_many_lem P p (suc n) h = go (p n) refl (how_many_lem P p n (λ i l. h i (omega arith)))
  where
    go : (t : Bool) → p n ≡ t → HowMany P n (count_below n p) → HowMany P (suc n) (count_below n p + one t)
    go true e w = rw (add-one) (HowMany.counted n (count_below n p) w ((h n (omega arith)).0 e))
    go false e w = rw (add-zero) (HowMany.passed n (count_below n p) w (λ q. absurd (true_false ((h n (omega arith)).1 q) e)))

-- of what comes to the same
pub how_many_same : (P Q : ℕ → Type 0) (n k : ℕ) → ((i : ℕ) → i < n → P i ↔ Q i) → HowMany P n k → HowMany Q n k
how_many_same P Q _ _ h HowMany.empty = HowMany.empty
how_many_same P Q _ _ h (HowMany.counted n k w p) =
    HowMany.counted n k (how_many_same P Q n k (λ i l. h i (omega arith)) w) ((h n (omega arith)).0 p)
how_many_same P Q _ _ h (HowMany.passed n k w p) =
    HowMany.passed n k (how_many_same P Q n k (λ i l. h i (omega arith)) w) (λ q. p ((h n (omega arith)).1 q))

pub no_other_number : NoOtherNumber
no_other_number P _ _ _ HowMany.empty HowMany.empty = refl
no_other_number P _ _ _ (HowMany.counted n k v p) (HowMany.counted _ o w q) = ap suc (no_other_number P n k o v w)
no_other_number P _ _ _ (HowMany.counted n k v p) (HowMany.passed _ o w q) = absurd (q p)
no_other_number P _ _ _ (HowMany.passed n k v p) (HowMany.counted _ o w q) = absurd (p q)
no_other_number P _ _ _ (HowMany.passed n k v p) (HowMany.passed _ o w q) = no_other_number P n k o v w

-- the ones in a column, by the sum and without it
module _ (n : ℕ) (m : List ℕ) (j : ℕ) where
  abbrev AOne : ℕ → Type 0
  AOne i = entry_at m n i j ≡ 1

  so_many_ones : HowMany AOne n (ones_in n m j)
  unfolding ones_in
  so_many_ones = how_many_lem AOne (λ i. eqb (item_in m (i * n + j)) 1) n (λ i _. (eqb-true _ _, eq-eqb _ _))

  pub number_true : (x : ℕ) → x ≡ ones_in n m j → HowMany AOne n x
  number_true x e = subst (HowMany AOne n) (sym e) so_many_ones

  pub true_number : (x : ℕ) → HowMany AOne n x → x ≡ ones_in n m j
  true_number x w = no_other_number AOne n (ones_in n m j) x so_many_ones w
