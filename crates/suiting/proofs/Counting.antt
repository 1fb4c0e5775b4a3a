-- Turns of the loops that count, compare and take out. Assumes nothing.
use mathlib.Core.Path.{◌≡◌, refl, sym, ap, ap₂, ◌∙◌}
use mathlib.Core.Bool.{not}
use mathlib.Core.List.{List, ◌++◌}
use Prim.Native.Nat.{ℕ, zero, suc, ◌+◌, ◌-◌, ◌*◌, ◌≤◌, ◌<◌}
use native.Mathlib.Omega.{arith}
use lib.Dec.{eqb}
use lib.ListN.{length, set, take, drop, replicate, length-replicate, get_or-replicate}
use lib.Seq.{length-take-le}
use Rattle.laws.specs.Below.{table, count_below, one}
use Rattle.laws.specs.Lent.{filled}
use Rattle.laws.proofs.Below.{length-table, table-get_or, table_cong, count_more, count_most}
use Rattle.laws.proofs.Lent.{length-filled, filled_at, Filling, filling_more}
use Rattle.refusal.specs.Fault.{Fault, refuse, ◌then◌, first_below}
use Rattle.pool.specs.Tables.{item_in}
use Rattle.live.specs.Faults.{numbers_fault}
use Rattle.live.specs.Calls.{up, without_row}
use Rattle.live.specs.Suitable.{ones_in, with_numbers}
use Rattle.live.proofs.Tables.{filled_over, filled_past, up_least, up-below}
use Rattle.live.proofs.Suitable.{numbers_there, ones_without}
use Rattle.suiting.specs.Counted.{ones_above}
use Rattle.suiting.specs.Preconditions.{Countable, CountedAbove, Lowerable}

-- what stands past the entries that are filled
filling_past : (j k : ℕ) (f : ℕ → ℕ) (old t : List ℕ) → Filling j f old t → j ≤ k → item_in t k ≡ item_in old k
filling_past j k f old t w l = ap (λ (s : List ℕ). item_in s k) w.holds ∙ filled_past (table j f) old k (rw (length-table) l)

-- n zeros, and what stood past them
pub cleared : (n : ℕ) (old zeros : List ℕ) → n ≤ length old → zeros ≡ replicate (length (take n old)) 0 → zeros ++ drop n old ≡ filled (table n (λ _. 0)) old
unfolding filled
cleared n old zeros l e =
    let f : zeros ≡ table n (λ _. 0) =
    e
    ∙ ap (λ (k : ℕ). replicate k 0) (length-take-le n old l)
    ∙ sym (table-get_or 0 (replicate n 0) n (λ _. 0) (length-replicate n 0) (λ i k. sym (get_or-replicate n i 0 0 k))) in
    ap₂ (λ (x : List ℕ) (k : ℕ). x ++ drop k old) f (sym (length-table n (λ _. 0)))

-- ## A row is counted

above_few : (i n : ℕ) (m : List ℕ) (j : ℕ) → ones_above i n m j ≤ i
unfolding ones_above
above_few i n m j = count_most i _

module _ (i n : ℕ) (m : List ℕ) where
  above_more : (j : ℕ) → ones_above (i + 1) n m j ≡ ones_above i n m j + one (eqb (item_in m (i * n + j)) 1)
  unfolding ones_above
  above_more j = count_more i _

  module _ (old : List ℕ) (w : CountedAbove i n m old) (j : ℕ) (l : j < n) (t : List ℕ) (v : Filling j (ones_above (i + 1) n m) old t) where
    entry_above : item_in t j ≡ ones_above i n m j
    entry_above = filling_past j j _ old t v (omega arith) ∙ w.counted j l

    module _ (x : ℕ) (e : x ≡ one (eqb (item_in m (i * n + j)) 1)) where
      counts_it : item_in t j + x ≡ ones_above (i + 1) n m j
      counts_it = rw (entry_above, e) (sym (above_more j))

      pub row_few : item_in t j + x ≤ 200
      row_few = omega (arith, counts_it, above_few (i + 1) n m j, w.inside, w.tables.few)

      pub row_more : Filling (j + 1) (ones_above (i + 1) n m) old (set t j (item_in t j + x))
      row_more = filling_more j (ones_above (i + 1) n m) old t (item_in t j + x) v counts_it (omega (arith, l, w.tables.numbers))

-- ## All rows are, from zeros on

module _ (n : ℕ) (m old clear : List ℕ) (w : Countable n m old) (z : clear ≡ filled (table n (λ _. 0)) old) where
  none_above : table n (λ _. 0) ≡ table n (ones_above 0 n m)
  unfolding ones_above count_below
  none_above = table_cong n _ _ (λ j l. refl)

  -- filled over by n
  over : (f : ℕ → ℕ) → filled (table n f) clear ≡ filled (table n f) old
  over f = ap (filled (table n f)) z ∙ filled_over (table n (λ _. 0)) old (table n f) (length-table n _ ∙ sym (length-table n _))

  clear_long : length clear ≡ length old
  clear_long = ap length z ∙ length-filled _ old (rw length-table w.numbers)

  pub rows_none : Filling n (ones_above 0 n m) clear clear
  rows_none = record { holds = z ∙ sym (over _) ∙ ap (λ (s : List ℕ). filled s clear) none_above; kept = refl }

  module _ (i : ℕ) (t : List ℕ) (v : Filling n (ones_above i n m) clear t) where
    pub rows_above : i < n → CountedAbove i n m t
    rows_above l =
        record {
          tables = record { few = w.few; rows = w.rows; numbers = rw (v.kept, clear_long) w.numbers };
          inside = l;
          counted = λ j k. filled_at n (ones_above i n m) clear t v.holds j k;
        }

    pub rows_more : (new : List ℕ) → new ≡ filled (table n (ones_above (i + 1) n m)) t → length new ≡ length t
        → Filling n (ones_above (i + 1) n m) clear new
    rows_more new e l =
        let f = table n (ones_above (i + 1) n m) in
        record {
          holds = e ∙ ap (filled f) v.holds ∙ filled_over (table n (ones_above i n m)) clear f (length-table n _ ∙ sym (length-table n _));
          kept = l ∙ v.kept;
        }

    pub rows_all : i ≡ n → t ≡ with_numbers n m old
    unfolding with_numbers ones_in ones_above
    rows_all e = v.holds ∙ ap (λ (k : ℕ). filled (table n (ones_above k n m)) clear) e ∙ over (ones_in n m)

    pub rows_long : length t ≡ length old
    rows_long = v.kept ∙ clear_long

-- ## The numbers are held to those counted

-- faults that are the same below n
first_cong : (n : ℕ) (f g : ℕ → Fault) → ((j : ℕ) → j < n → f j ≡ g j) → first_below n f ≡ first_below n g
unfolding first_below
first_cong zero f g h = refl
first_cong (suc n) f g h = ap₂ ◌then◌ (first_cong n f g (λ j l. h j (omega arith))) (h n (omega arith))

pub is_compared : (n : ℕ) (m counts old t : List ℕ) → counts ≡ with_numbers n m old
    → first_below n (λ j. refuse 10 0 (not (eqb (item_in t j) (item_in counts j)))) ≡ numbers_fault n m t
unfolding numbers_fault
is_compared n m counts old t e =
    first_cong n _ _
    (λ j l.
    ap (λ (x : ℕ). refuse 10 0 (not (eqb (item_in t j) x)))
    (ap (λ (s : List ℕ). item_in s j) e ∙ numbers_there n m old j l))

-- ## A pair goes

-- where a patient's number stood
pub before_inside : (a n j before : ℕ) → before ≡ up a j → j < n - 1 → before < n
before_inside a n j before e l = rw e (up-below a n j l)

module _ (a n : ℕ) (m old : List ℕ) (w : Lowerable a n m old) (j : ℕ) (l : j < n - 1) (t : List ℕ)
    (v : Filling j (ones_in (n - 1) (without_row a n m)) old t) (before : ℕ) (e : before ≡ up a j) where
  -- the number that the patient had, with the donor that goes
  module _ (x : ℕ) (s : x ≡ one (eqb (item_in m (a * n + before)) 1)) where
    number_before : item_in t before ≡ ones_in (n - 1) (without_row a n m) j + x
    number_before =
        filling_past j before _ old t v (rw e (up_least a j))
        ∙ w.numbered before (before_inside a n j before e l)
        ∙ ap (ones_in n m) e
        ∙ ones_without a n m j w.inside l
        ∙ ap (λ (y : ℕ). ones_in (n - 1) (without_row a n m) j + y) (sym (rw e at s))

    pub number_least : x ≤ item_in t before
    number_least = omega (arith, number_before)

    pub number_more : Filling (j + 1) (ones_in (n - 1) (without_row a n m)) old (set t j (item_in t before - x))
    number_more =
        filling_more j (ones_in (n - 1) (without_row a n m)) old t (item_in t before - x) v (omega (arith, number_before))
        (omega (arith, l, w.tables.numbers))
