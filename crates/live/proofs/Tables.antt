-- What stands in the tables of a live pool with a pair more, and with a pair less. Assumes nothing.
use mathlib.Core.Path.{◌≡◌, refl, sym, ap, ◌∙◌}
use mathlib.Core.Bool.{Bool, true, false}
use mathlib.Core.List.{List, [], ◌∷◌, ◌++◌}
use Prim.Native.Nat.{ℕ, zero, suc, ◌+◌, ◌-◌, ◌*◌, ◌/◌, ◌%◌, ◌≤◌, ◌<◌}
use native.Mathlib.Nat.{mod-lt, div-lt_iff_lt-mul, mul-le-mul}
use native.Mathlib.Numerals.{add-one}
use native.Mathlib.Omega.{arith}
use native.Mathlib.Decide.{dec_lt}
use borrow.Author.Tests.{lt-ltb, le-ltb, eqb-true, eq-eqb, ne_eqb}
use lib.Dec.{eqb}
use lib.ListN.{length, drop, length-set}
use lib.Seq.{get_or-set_same, get_or-set_other, get_or-append-add, get_or-drop, drop-append_seam}
use Rattle.laws.specs.Below.{table, any_below, either}
use Rattle.laws.specs.Lent.{filled, stored}
use Rattle.laws.proofs.Below.{length-table, table_cong, any_none, true_false}
use Rattle.laws.proofs.Lent.{length-filled, filled_at, stored_one}
use Rattle.pool.specs.Pool.{Pair}
use Rattle.pool.specs.Tables.{Fields, item_in, pair_in}
use Rattle.pool.specs.Faultless.{FieldsHold}
use Rattle.graph.specs.Graph.{in_rows}
use Rattle.graph.proofs.Rows.{rows_entry}
use Rattle.weighing.specs.Promises.{entry_at}
use Rattle.live.specs.Calls.{with_pair, place_of, up, without_entry, without_row, without_pair}
use Rattle.live.specs.Promises.{PastKept, FieldsPast, Moved}

-- ## Filled tables

-- filled over by as many
pub filled_over : (new old more : List ℕ) → length more ≡ length new → filled more (filled new old) ≡ filled more old
unfolding filled
filled_over new old more e = ap (λ (r : List ℕ). more ++ r) (rw e (drop-append_seam new (drop (length new) old)))

module _ (new old : List ℕ) where
  pub filled_past : (i : ℕ) → length new ≤ i → item_in (filled new old) i ≡ item_in old i
  unfolding filled
  filled_past i l =
      let e : length new + (i - length new) ≡ i = omega arith in
      ap (λ (k : ℕ). item_in (filled new old) k) (sym e)
      ∙ get_or-append-add new (drop (length new) old) (i - length new) 0
      ∙ get_or-drop (length new) old (i - length new) 0
      ∙ ap (item_in old) e

  pub filled_kept : (k : ℕ) → length new ≡ k → k ≤ length old → PastKept k old (filled new old)
  filled_kept k e l = record { long = length-filled new old (rw e l); past = λ i h. filled_past i (rw e h) }

  pub filled_again : filled new (filled new old) ≡ filled new old
  filled_again = filled_over new old new refl

-- n rows of n that agree
pub rows_cong : (n : ℕ) (e f : ℕ → ℕ → ℕ) → ((i j : ℕ) → i < n → j < n → e i j ≡ f i j) → in_rows n e ≡ in_rows n f
unfolding in_rows table
rows_cong zero e f h = refl
rows_cong (suc n) e f h =
    let some : 0 < suc n = omega arith in
    table_cong (suc n * suc n) _ _ (λ k l. h (k / suc n) (k % suc n) ((div-lt_iff_lt-mul some).1 l) (mod-lt k some))

pub length_rows : (n : ℕ) (e : ℕ → ℕ → ℕ) → length (in_rows n e) ≡ n * n
unfolding in_rows
length_rows n e = length-table (n * n) _

-- ## A pair more

-- an entry at n
module _ (n x : ℕ) (t : List ℕ) (l : n < length t) where
  at_long : length (stored n (x ∷ []) t) ≡ length t
  at_long = ap length (sym (stored_one n x t l)) ∙ length-set t n x

  at_there : item_in (stored n (x ∷ []) t) n ≡ x
  at_there = ap (λ (s : List ℕ). item_in s n) (sym (stored_one n x t l)) ∙ get_or-set_same t n x 0 l

  at_other : (i : ℕ) → (i ≡ n → ⊥) → item_in (stored n (x ∷ []) t) i ≡ item_in t i
  at_other i h = ap (λ (s : List ℕ). item_in s i) (sym (stored_one n x t l)) ∙ get_or-set_other t n i x 0 h

  at_past : PastKept (n + 1) t (stored n (x ∷ []) t)
  at_past = record { long = at_long; past = λ i h. at_other i (λ e. omega (arith, h, e)) }

module _ (n : ℕ) (p : Pair) (f : Fields) (h : FieldsHold (n + 1) f) where
  abbrev in_ids : n < length f.ids
  in_ids = omega (arith, h.ids)

  abbrev in_donor_blood_lem : n < length f.donor_blood
  in_donor_blood_lem = omega (arith, h.donor_blood)

  abbrev in_patient_blood_lem : n < length f.patient_blood
  in_patient_blood_lem = omega (arith, h.patient_blood)

  abbrev in_donor_age_lem : n < length f.donor_age
  in_donor_age_lem = omega (arith, h.donor_age)

  abbrev in_patient_age_lem : n < length f.patient_age
  in_patient_age_lem = omega (arith, h.patient_age)

  abbrev in_donor_antigens_lem : n < length f.donor_antigens
  in_donor_antigens_lem = omega (arith, h.donor_antigens)

  abbrev in_patient_antigens_lem : n < length f.patient_antigens
  in_patient_antigens_lem = omega (arith, h.patient_antigens)

  abbrev in_patient_antibodies_lem : n < length f.patient_antibodies
  in_patient_antibodies_lem = omega (arith, h.patient_antibodies)

  pub pair_there : pair_in (with_pair n p f) n ≡ p
  unfolding pair_in with_pair
  pair_there k =
      record {
        id = at_there n p.id f.ids in_ids k;
        donor_blood = at_there n p.donor_blood f.donor_blood in_donor_blood_lem k;
        patient_blood = at_there n p.patient_blood f.patient_blood in_patient_blood_lem k;
        donor_age = at_there n p.donor_age f.donor_age in_donor_age_lem k;
        patient_age = at_there n p.patient_age f.patient_age in_patient_age_lem k;
        donor_antigens = at_there n p.donor_antigens f.donor_antigens in_donor_antigens_lem k;
        patient_antigens = at_there n p.patient_antigens f.patient_antigens in_patient_antigens_lem k;
        patient_antibodies = at_there n p.patient_antibodies f.patient_antibodies in_patient_antibodies_lem k;
      }

  pub pair_other : (i : ℕ) → (i ≡ n → ⊥) → pair_in (with_pair n p f) i ≡ pair_in f i
  unfolding pair_in with_pair
  pair_other i d k =
      record {
        id = at_other n p.id f.ids in_ids i d k;
        donor_blood = at_other n p.donor_blood f.donor_blood in_donor_blood_lem i d k;
        patient_blood = at_other n p.patient_blood f.patient_blood in_patient_blood_lem i d k;
        donor_age = at_other n p.donor_age f.donor_age in_donor_age_lem i d k;
        patient_age = at_other n p.patient_age f.patient_age in_patient_age_lem i d k;
        donor_antigens = at_other n p.donor_antigens f.donor_antigens in_donor_antigens_lem i d k;
        patient_antigens = at_other n p.patient_antigens f.patient_antigens in_patient_antigens_lem i d k;
        patient_antibodies = at_other n p.patient_antibodies f.patient_antibodies in_patient_antibodies_lem i d k;
      }

  pub with_past : FieldsPast (n + 1) f (with_pair n p f)
  unfolding with_pair
  with_past =
      record {
        ids = at_past n p.id f.ids in_ids;
        donor_blood = at_past n p.donor_blood f.donor_blood in_donor_blood_lem;
        patient_blood = at_past n p.patient_blood f.patient_blood in_patient_blood_lem;
        donor_age = at_past n p.donor_age f.donor_age in_donor_age_lem;
        patient_age = at_past n p.patient_age f.patient_age in_patient_age_lem;
        donor_antigens = at_past n p.donor_antigens f.donor_antigens in_donor_antigens_lem;
        patient_antigens = at_past n p.patient_antigens f.patient_antigens in_patient_antigens_lem;
        patient_antibodies = at_past n p.patient_antibodies f.patient_antibodies in_patient_antibodies_lem;
      }

-- tables that held so many still do
pub past_hold : (k n : ℕ) (old new : Fields) → FieldsPast n old new → FieldsHold k old → FieldsHold k new
past_hold k n old new p h =
    record {
      ids = rw p.ids.long h.ids;
      donor_blood = rw p.donor_blood.long h.donor_blood;
      patient_blood = rw p.patient_blood.long h.patient_blood;
      donor_age = rw p.donor_age.long h.donor_age;
      patient_age = rw p.patient_age.long h.patient_age;
      donor_antigens = rw p.donor_antigens.long h.donor_antigens;
      patient_antigens = rw p.patient_antigens.long h.patient_antigens;
      patient_antibodies = rw p.patient_antibodies.long h.patient_antibodies;
    }

-- ## The first with an id

-- where one of n is x, its place is that of the first
pub record Found (n : ℕ) (id : ℕ → ℕ) (x a : ℕ) : Type 0 where
  pub below : a < n
  pub there : id a ≡ x
  pub first : (j : ℕ) → j < a → id j ≡ x → ⊥

pub place_found : (n : ℕ) (id : ℕ → ℕ) (x : ℕ) → any_below n (λ j. eqb (id j) x) ≡ true → Found n id x (place_of n id x)
unfolding any_below either place_of
place_found zero id x e = true_false e refl
place_found (suc n) id x e = go (place_found n id x) (any_below n (λ j. eqb (id j) x)) refl (eqb (id n) x) refl e
  where
    go : (any_below n (λ j. eqb (id j) x) ≡ true → Found n id x (place_of n id x)) → (s : Bool) → any_below n (λ j. eqb (id j) x) ≡ s
        → (t : Bool) → eqb (id n) x ≡ t → either s t ≡ true → Found (suc n) id x (place_of (suc n) id x)
    go r true h t k f = rw h (let w = r h in record { below = omega (arith, w.below); there = w.there; first = w.first })
    go r false h true k f =
        rw (h, k)
        (record {
          below = omega arith;
          there = eqb-true (id n) x k;
          first = λ j l e. true_false (eq-eqb (id j) x e) (any_none n (λ j. eqb (id j) x) h j l);
        })
    go r false h false k f = true_false f refl

-- ## A pair less

module _ (a : ℕ) where
  pub up_before : (i : ℕ) → i < a → up a i ≡ i
  unfolding up
  up_before i l = rw (lt-ltb i a l)

  pub up_from : (i : ℕ) → a ≤ i → up a i ≡ i + 1
  unfolding up
  up_from i l = rw (le-ltb i a l)

  pub up_least : (i : ℕ) → i ≤ up a i
  up_least i = go (dec_lt i a)
    where
      go : Dec (i < a) → i ≤ up a i
      go (yes k) = omega (arith, up_before i k)
      go (no k) = omega (arith, up_from i (omega arith))

  pub up-below : (n i : ℕ) → i < n - 1 → up a i < n
  up-below n i l = go (dec_lt i a)
    where
      go : Dec (i < a) → up a i < n
      go (yes k) = rw (up_before i k) (omega arith)
      go (no k) = rw (up_from i (omega arith)) (omega arith)

  -- never a itself, and in the same order
  pub up_not : (i : ℕ) → up a i ≡ a → ⊥
  up_not i e = go (dec_lt i a)
    where
      go : Dec (i < a) → ⊥
      go (yes k) = omega (arith, sym (up_before i k) ∙ e)
      go (no k) = omega (arith, sym (up_from i (omega arith)) ∙ e)

  pub up_less : (i j : ℕ) → i < j → up a i < up a j
  up_less i j l = go (dec_lt i a) (dec_lt j a)
    where
      go : Dec (i < a) → Dec (j < a) → up a i < up a j
      go (yes k) (yes h) = rw (up_before i k, up_before j h) l
      go (yes k) (no h) = rw (up_before i k, up_from j (omega arith)) (omega arith)
      go (no k) (yes h) = absurd (omega arith)
      go (no k) (no h) = rw (up_from i (omega arith), up_from j (omega arith)) (omega arith)

  pub up_same : (i j : ℕ) → eqb (up a i) (up a j) ≡ eqb i j
  up_same i j = go (dec_lt i j) (dec_lt j i)
    where
      go : Dec (i < j) → Dec (j < i) → eqb (up a i) (up a j) ≡ eqb i j
      go (yes k) d = ne_eqb (up a i) (up a j) (λ e. omega (arith, up_less i j k, e)) ∙ sym (ne_eqb i j (λ e. omega (arith, k, e)))
      go (no k) (yes h) = ne_eqb (up a i) (up a j) (λ e. omega (arith, up_less j i h, e)) ∙ sym (ne_eqb i j (λ e. omega (arith, h, e)))
      go (no k) (no h) =
          let e : i ≡ j = omega arith in
          rw e (eq-eqb (up a j) (up a j) refl ∙ sym (eq-eqb j j refl))

  -- what moved from i to j
  pub moved_up : (n i j : ℕ) → Moved a i j → a < n → i < n → (j < n - 1) × (up a j ≡ i)
  moved_up n _ _ (Moved.stays i k) h l = (omega arith, up_before i k)
  moved_up n _ _ (Moved.down i k) h l = (omega arith, up_from i k ∙ add-one i)

  module _ (n : ℕ) (t : List ℕ) where
    pub entry_moved : (i : ℕ) → i < n - 1 → item_in (without_entry a n t) i ≡ item_in t (up a i)
    unfolding without_entry
    entry_moved i l = filled_at (n - 1) (λ i. item_in t (up a i)) t _ refl i l

    pub entry_past : n ≤ length t → PastKept (n - 1) t (without_entry a n t)
    unfolding without_entry
    entry_past l = filled_kept _ t (n - 1) (length-table (n - 1) _) (omega arith)

    pub row_moved : (i j : ℕ) → i < n - 1 → j < n - 1 → entry_at (without_row a n t) (n - 1) i j ≡ entry_at t n (up a i) (up a j)
    unfolding without_row
    row_moved i j l m = rows_entry (n - 1) (λ i j. item_in t (up a i * n + up a j)) t i j l m

    pub row_past : n * n ≤ length t → PastKept ((n - 1) * (n - 1)) t (without_row a n t)
    unfolding without_row
    row_past l =
        let less : n - 1 ≤ n = omega arith in
        filled_kept _ t ((n - 1) * (n - 1)) (length_rows (n - 1) _) (omega (arith, l, mul-le-mul less less))

  module _ (n : ℕ) (f : Fields) where
    pub pair_moved : (i : ℕ) → i < n - 1 → pair_in (without_pair a n f) i ≡ pair_in f (up a i)
    unfolding pair_in without_pair
    pair_moved i l k =
        record {
          id = entry_moved n f.ids i l k;
          donor_blood = entry_moved n f.donor_blood i l k;
          patient_blood = entry_moved n f.patient_blood i l k;
          donor_age = entry_moved n f.donor_age i l k;
          patient_age = entry_moved n f.patient_age i l k;
          donor_antigens = entry_moved n f.donor_antigens i l k;
          patient_antigens = entry_moved n f.patient_antigens i l k;
          patient_antibodies = entry_moved n f.patient_antibodies i l k;
        }

    pub without_past : FieldsHold n f → FieldsPast (n - 1) f (without_pair a n f)
    unfolding without_pair
    without_past h =
        record {
          ids = entry_past n f.ids h.ids;
          donor_blood = entry_past n f.donor_blood h.donor_blood;
          patient_blood = entry_past n f.patient_blood h.patient_blood;
          donor_age = entry_past n f.donor_age h.donor_age;
          patient_age = entry_past n f.patient_age h.patient_age;
          donor_antigens = entry_past n f.donor_antigens h.donor_antigens;
          patient_antigens = entry_past n f.patient_antigens h.patient_antigens;
          patient_antibodies = entry_past n f.patient_antibodies h.patient_antibodies;
        }
