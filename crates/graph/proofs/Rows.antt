-- Tables filled row by row: a turn of the loop over the columns, and of the loop over the rows. Assumes nothing.
use mathlib.Core.Path.{◌≡◌, refl, sym, ap, ap₂, ◌∙◌}
use mathlib.Core.List.{List, [], ◌∷◌, ◌++◌}
use Prim.Native.Nat.{ℕ, ◌+◌, ◌*◌, ◌/◌, ◌%◌, ◌≤◌, ◌<◌}
use native.Mathlib.Nat.{zero-add, suc-mul, mul-le-mul, mul-le-mul_right, zero-mul}
use native.Mathlib.Numerals.{add-one}
use native.Mathlib.Omega.{arith}
use lib.Arith.{digits_div, digits_mod}
use lib.ListN.{length, get_or, set, length-set}
use lib.Seq.{set_split}
use Rattle.laws.specs.Below.{table}
use Rattle.laws.specs.Lent.{filled, stored}
use Rattle.laws.proofs.Below.{length-table, get_or-table, table_cong, table_add}
use Rattle.laws.proofs.Lent.{Filling, filling_none, get_or-filled, length-stored, stored_none, stored-filled, stored_then}
use Rattle.graph.specs.Graph.{in_rows}
use Rattle.graph.specs.Preconditions.{Row}

-- ## Sizes

-- a row and what stands before it fit where n rows of n do
pub row_fits : {i n : ℕ} → i < n → i * n + n ≤ n * n
row_fits {i} {n} h = rw (← suc-mul i n) (mul-le-mul_right n h)

-- n rows of n, for n up to 200
pub rows_few : {n : ℕ} → n ≤ 200 → n * n ≤ 40000
rows_few h = mul-le-mul h h

-- so a place of row i is in the table
pub in_row : {i n j : ℕ} {t : List ℕ} → Row i n t → j < n → i * n + j < length t
in_row r l = omega (arith, row_fits r.inside, r.fits)

-- ## A loop over the columns: t is `old` with i elements stored from `at` on, and as long

pub record Storing (at i : ℕ) (f : ℕ → ℕ) (old t : List ℕ) : Type 0 where
  pub holds : t ≡ stored at (table i f) old
  pub kept : length t ≡ length old

module _ (at : ℕ) (f : ℕ → ℕ) (old : List ℕ) where
  pub storing_none : Storing at 0 f old old
  unfolding table
  storing_none = record { holds = sym (stored_none at old); kept = refl }

  pub storing_more : (i : ℕ) (t : List ℕ) (x : ℕ) → Storing at i f old t → x ≡ f i → at + i < length old → Storing at (i + 1) f old (set t (at + i) x)
  unfolding table stored
  storing_more i t x w e l =
      let m : at + i < length t = omega (arith, w.kept) in
      let s : set t (at + i) x ≡ stored (at + i) (f i ∷ []) t =
      set_split t (at + i) x m ∙ rw (e, add-one) in
      record {
        holds =
            stored_then at i (table i f) (f i ∷ []) old t (set t (at + i) x) (length-table i f) (omega arith) w.holds s
            ∙ ap (λ (k : ℕ). stored at (table k f) old) (sym (add-one i));
        kept = length-set t (at + i) x ∙ w.kept;
      }

  pub storing_all : (i n : ℕ) (t : List ℕ) → Storing at i f old t → i ≡ n → t ≡ stored at (table n f) old
  storing_all i n t w e = w.holds ∙ ap (λ (k : ℕ). stored at (table k f) old) e

-- ## A loop over the rows

-- what stands at k of n rows of n
unfoldable pub cell : ℕ → (ℕ → ℕ → ℕ) → ℕ → ℕ
cell n entry k = entry (k / n) (k % n)

pub cell_at : (n : ℕ) (entry : ℕ → ℕ → ℕ) (i j : ℕ) → j < n → cell n entry (i * n + j) ≡ entry i j
unfolding cell
cell_at n entry i j l = ap₂ entry (digits_div i l) (digits_mod i l)

module _ (n : ℕ) (entry : ℕ → ℕ → ℕ) (old : List ℕ) where
  pub rows_none : Filling (0 * n) (cell n entry) old old
  rows_none = rw zero-mul (filling_none (cell n entry) old)

  -- row i is stored after those before it
  pub rows_more : (i : ℕ) (t new : List ℕ) → i < n → n * n ≤ length old → Filling (i * n) (cell n entry) old t
      → new ≡ stored (i * n) (table n (entry i)) t → Filling ((i + 1) * n) (cell n entry) old new
  rows_more i t new l h w e =
      let r : table n (entry i) ≡ table n (λ j. cell n entry (i * n + j)) = table_cong n _ _ (λ j m. sym (cell_at n entry i j m)) in
      let s : table (i * n) (cell n entry) ++ table n (entry i) ≡ table ((i + 1) * n) (cell n entry) =
      ap (λ (x : List ℕ). table (i * n) (cell n entry) ++ x) r
      ∙ sym (table_add (i * n) n (cell n entry))
      ∙ ap (λ (m : ℕ). table m (cell n entry)) (sym (suc-mul i n) ∙ ap (λ (m : ℕ). m * n) (sym (add-one i))) in
      record {
        holds =
            stored_then 0 (i * n) (table (i * n) (cell n entry)) (table n (entry i)) old t new (length-table (i * n) (cell n entry))
            (omega (arith, row_fits l))
            (w.holds ∙ sym (stored-filled _ old)) (e ∙ ap (λ (m : ℕ). stored m (table n (entry i)) t) (sym (zero-add (i * n))))
            ∙ stored-filled _ old
            ∙ ap (λ (x : List ℕ). filled x old) s;
        kept = ap length e ∙ length-stored (i * n) (table n (entry i)) t (rw length-table (omega (arith, row_fits l, w.kept))) ∙ w.kept;
      }

  pub rows_all : (i : ℕ) (t : List ℕ) → Filling (i * n) (cell n entry) old t → i ≡ n → t ≡ filled (in_rows n entry) old
  unfolding in_rows cell
  rows_all i t w e = w.holds ∙ ap (λ (m : ℕ). filled (table (m * n) (cell n entry)) old) e

-- what then stands in row i and column j
pub rows_entry : (n : ℕ) (entry : ℕ → ℕ → ℕ) (old : List ℕ) (i j : ℕ) → i < n → j < n → get_or (filled (in_rows n entry) old) (i * n + j) 0 ≡ entry i j
unfolding in_rows cell
rows_entry n entry old i j l m =
    let k : i * n + j < n * n = omega (arith, row_fits l) in
    get_or-filled (table (n * n) (cell n entry)) old 0 (i * n + j) (rw length-table k)
    ∙ get_or-table (n * n) (cell n entry) 0 (i * n + j) k
    ∙ cell_at n entry i j m
