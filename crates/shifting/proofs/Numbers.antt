-- A table of numbers without one entry, or without one row and one column, is what is promised of a withdrawal. Assumes nothing.
use mathlib.Core.Path.{◌≡◌, refl, sym, ap, ap₂, ◌∙◌}
use mathlib.Core.List.{List, ◌++◌, flat_map}
use Prim.Native.Nat.{ℕ, zero, suc, ◌+◌, ◌-◌, ◌*◌, ◌≤◌, ◌<◌}
use native.Mathlib.Nat.{zero-mul, suc-mul}
use native.Mathlib.Omega.{arith}
use native.Mathlib.Decide.{dec_lt}
use lib.ListN.{length, get_or, take, drop, length-take}
use lib.Seq.{get_or-take, get_or-drop}
use Rattle.std.specs.List.{remove}
use Rattle.std.proofs.lemmas.List.Edits.{get_or-remove_below, get_or-remove_above}
use Rattle.laws.specs.Below.{table}
use Rattle.laws.specs.Lent.{filled}
use Rattle.laws.proofs.Below.{table_cong, table_add, table-get_or}
use Rattle.laws.proofs.Lists.{flat_map_suc}
use Rattle.pool.specs.Tables.{item_in}
use Rattle.graph.specs.Graph.{in_rows}
use Rattle.graph.proofs.Rows.{cell, cell_at}
use Rattle.live.specs.Calls.{up, without_entry, without_row}
use Rattle.live.proofs.Tables.{up_before, up_from, up-below}
use Rattle.shifting.specs.Preconditions.{Entry, Square}
use Rattle.shifting.specs.Without.{one_out, row_without, cross_out}
use Rattle.shifting.proofs.Moves.{length_out, moved, row_there}

-- the first n of s without that at a, number by number
out : (a n : ℕ) (s : List ℕ) → a < n → n ≤ length s → remove (take n s) a ≡ table (n - 1) (λ j. item_in s (up a j))
out a n s l h = sym (table-get_or 0 (remove (take n s) a) (n - 1) _ (length_out a n s l h) (λ j k. go j k (dec_lt j a)))
  where
    inside : a < length (take n s)
    inside = rw length-take (omega arith)

    go : (j : ℕ) → j < n - 1 → Dec (j < a) → item_in s (up a j) ≡ get_or (remove (take n s) a) j 0
    go j k (yes b) =
        ap (item_in s) (up_before a j b) ∙ sym (get_or-take n s j 0 (omega arith)) ∙ sym (get_or-remove_below (take n s) a 0 j b (omega (arith, inside)))
    go j k (no b) =
        ap (item_in s) (up_from a j (omega arith))
        ∙ sym (get_or-take n s (j + 1) 0 (omega arith))
        ∙ sym (get_or-remove_above (take n s) a 0 j (omega arith) inside)

pub number_out : (a n : ℕ) (old new : List ℕ) → Entry a n old → new ≡ one_out a n old → new ≡ without_entry a n old
unfolding one_out without_entry
number_out a n old new p e = e ∙ ap (λ (x : List ℕ). filled x old) (out a n old p.inside p.fits)

module _ (a n : ℕ) (t : List ℕ) (p : Square a n t) where
  -- the entries of the rows and columns that stay
  abbrev staying : ℕ → ℕ → ℕ
  staying i j = item_in t (up a i * n + up a j)

  rows : (i : ℕ) → i ≤ n - 1 → moved a n t i ≡ table (i * (n - 1)) (cell (n - 1) staying)
  unfolding table flat_map row_without
  rows zero l = rw zero-mul refl
  rows (suc i) l =
      let m = n - 1 in
      let r = up a i in
      let inside : i < m = omega arith in
      flat_map_suc (row_without a n t) (up a) i
      ∙ ap₂ (λ (x y : List ℕ). x ++ y) (rows i (omega arith))
      (out a n (drop (r * n) t) p.inside (row_there a n t p r (up-below a n i inside))
      ∙ table_cong m _ _ (λ j k. get_or-drop (r * n) t (up a j) 0 ∙ sym (cell_at m staying i j k)))
      ∙ sym (table_add (i * m) m (cell m staying))
      ∙ ap (λ (k : ℕ). table k (cell m staying)) (sym (suc-mul i m))

  pub numbers_out : (new : List ℕ) → new ≡ cross_out a n t → new ≡ without_row a n t
  unfolding cross_out without_row in_rows cell
  numbers_out new e = e ∙ ap (λ (x : List ℕ). filled x t) (rows (n - 1) (omega arith))
