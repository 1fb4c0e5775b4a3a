-- There and back: an accepted sheet, read and written again, is that sheet; a written pool reads back as that pool. Assumes nothing.
use mathlib.Core.Path.{◌≡◌, refl, sym, ap, ap₂, ◌∙◌}
use mathlib.Core.List.{List, map}
use Prim.Native.Nat.{ℕ, ◌≤◌, ◌<◌}
use native.Mathlib.Omega.{arith}
use lib.ListN.{length, get_or, take, length-map}
use Rattle.laws.specs.Below.{table}
use Rattle.laws.specs.Lent.{filled}
use Rattle.laws.proofs.Below.{length-table, get_or-table, table_cong, map-table}
use Rattle.laws.proofs.Lent.{length-filled, get_or-filled, take-filled}
use Rattle.refusal.specs.Answer.{Outcome, finished, unless}
use Rattle.refusal.proofs.Faults.{unless_none, unless_then}
use Rattle.pool.specs.Pool.{Pair, Pool}
use Rattle.pool.specs.Points.{has_points, point_count}
use Rattle.pool.specs.Sheet.{sheet_of, points_size, version_in, pairs_in, point_at, pair_at, shuffle_at, pool_of}
use Rattle.pool.specs.Tables.{Fields, Tables, item_in, room, pair_in, pool_in, filled_fields, filled_tables}
use Rattle.pool.specs.Faults.{room_fault, tables_fault}
use Rattle.pool.specs.Calls.{Head, head, reading, writing}
use Rattle.pool.specs.Faultless.{FieldsHold, TablesHold, FaultlessSheet, FaultlessPool, Faultless}
use Rattle.pool.specs.Promises.{EntriesBelow, TablesTyped, LongestSheet, SheetComesBack, PoolComesBack}
use Rattle.pool.proofs.Lengths.{length_sheet_in}
use Rattle.pool.proofs.Pairs.{faultless_cong}
use Rattle.pool.proofs.Rooms.{hold_room}
use Rattle.pool.proofs.Points.{size_most, first_size, hold_count, count_hold}
use Rattle.pool.proofs.Reading.{room_none, tables_none, sheet_none, sheet_pool}
use Rattle.pool.proofs.ReadingCall.{reading_none, reading_passed}
use Rattle.pool.proofs.Writing.{pool_none}
use Rattle.pool.proofs.WritingCall.{writing_none, writing_passed}
use Rattle.pool.proofs.Read.{sheet_back}
use Rattle.pool.proofs.Written.{Fits, pooled, written, sheet_written, says_version, says_pairs, says_pool, written_faultless}

-- ## The tables that the points, n pairs and their shuffle fill, hold them

module _ (n : ℕ) (pair : ℕ → Pair) where
  length_column : (g : Pair → ℕ) (old : List ℕ) → n ≤ length old → length (filled (map g (table n pair)) old) ≡ length old
  length_column g old l = length-filled _ old (rw (length-map, length-table) l)

  column : (g : Pair → ℕ) (old : List ℕ) (i : ℕ) → i < n → get_or (filled (map g (table n pair)) old) i 0 ≡ g (pair i)
  column g old i l =
      ap (λ (c : List ℕ). get_or (filled c old) i 0) (map-table g n pair)
      ∙ get_or-filled (table n (λ i. g (pair i))) old 0 i (rw length-table l)
      ∙ get_or-table n (λ i. g (pair i)) 0 i l

  pub pair_in_filled : (f : Fields) (i : ℕ) → i < n → pair_in (filled_fields (table n pair) f) i ≡ pair i
  unfolding pair_in filled_fields
  pair_in_filled f i l k =
      record {
        id = column (λ q. q.id) f.ids i l k;
        donor_blood = column (λ q. q.donor_blood) f.donor_blood i l k;
        patient_blood = column (λ q. q.patient_blood) f.patient_blood i l k;
        donor_age = column (λ q. q.donor_age) f.donor_age i l k;
        patient_age = column (λ q. q.patient_age) f.patient_age i l k;
        donor_antigens = column (λ q. q.donor_antigens) f.donor_antigens i l k;
        patient_antigens = column (λ q. q.patient_antigens) f.patient_antigens i l k;
        patient_antibodies = column (λ q. q.patient_antibodies) f.patient_antibodies i l k;
      }

  fields_hold_filled : (f : Fields) → FieldsHold n f → FieldsHold n (filled_fields (table n pair) f)
  unfolding filled_fields
  fields_hold_filled f h =
      record {
        ids = rw (length_column (λ q. q.id) f.ids h.ids) h.ids;
        donor_blood = rw (length_column (λ q. q.donor_blood) f.donor_blood h.donor_blood) h.donor_blood;
        patient_blood = rw (length_column (λ q. q.patient_blood) f.patient_blood h.patient_blood) h.patient_blood;
        donor_age = rw (length_column (λ q. q.donor_age) f.donor_age h.donor_age) h.donor_age;
        patient_age = rw (length_column (λ q. q.patient_age) f.patient_age h.patient_age) h.patient_age;
        donor_antigens = rw (length_column (λ q. q.donor_antigens) f.donor_antigens h.donor_antigens) h.donor_antigens;
        patient_antigens = rw (length_column (λ q. q.patient_antigens) f.patient_antigens h.patient_antigens) h.patient_antigens;
        patient_antibodies =
            rw (length_column (λ q. q.patient_antibodies) f.patient_antibodies h.patient_antibodies) h.patient_antibodies;
      }

module _ (v : ℕ) (p : ℕ → ℕ) (n : ℕ) (pair : ℕ → Pair) (s : ℕ → ℕ) (t : Tables) where
  abbrev full : Tables
  full = filled_tables (pooled v p n pair s) t

  pub point_in_filled : (k : ℕ) → k < point_count v → item_in full.points k ≡ p k
  unfolding filled_tables
  point_in_filled k l = get_or-filled (table (point_count v) p) t.points 0 k (rw length-table l) ∙ get_or-table (point_count v) p 0 k l

  number_in_filled : (j : ℕ) → j < n → item_in full.shuffle j ≡ s j
  unfolding filled_tables
  number_in_filled j l = get_or-filled (table n s) t.shuffle 0 j (rw length-table l) ∙ get_or-table n s 0 j l

  pub faultless_filled : TablesHold v n t → Faultless v p n pair s → FaultlessPool v n full
  unfolding filled_tables
  faultless_filled h w =
      let held : point_count v ≤ length t.points = hold_count v t.points h.points in
      record {
        hold =
            record {
              points = count_hold v (filled (table (point_count v) p) t.points) (rw (length-filled (table (point_count v) p) t.points (rw length-table held)) held);
              fields = fields_hold_filled n pair t.fields h.fields;
              shuffle = rw (length-filled (table n s) t.shuffle (rw length-table h.shuffle)) h.shuffle;
            };
        pool =
            faultless_cong v n p (item_in full.points) pair (pair_in (filled_fields (table n pair) t.fields)) s (item_in full.shuffle)
            (λ k l. sym (point_in_filled k l))
            (λ i l. sym (pair_in_filled n pair t.fields i l))
            (λ j l. sym (number_in_filled j l)) w;
      }

  pub pool_in_filled : pool_in v n full ≡ pooled v p n pair s
  unfolding pool_in filled_tables
  pool_in_filled =
      let e0 : table (point_count v) (item_in full.points) ≡ table (point_count v) p = table_cong (point_count v) _ p point_in_filled in
      let e1 : table n (pair_in (filled_fields (table n pair) t.fields)) ≡ table n pair =
      table_cong n _ pair (pair_in_filled n pair t.fields) in
      let e2 : table n (item_in full.shuffle) ≡ table n s = table_cong n _ s number_in_filled in
      λ k. record { version = v; points = e0 k; pairs = e1 k; shuffle = e2 k }

-- what the types of the slices give
typed_fits : (t : Tables) → TablesTyped t → (i : ℕ) → Fits (pair_in t.fields i)
unfolding pair_in
typed_fits t y i =
    record {
      id = y.ids i;
      donor_antigens = y.donor_antigens i;
      patient_antigens = y.patient_antigens i;
      patient_antibodies = y.patient_antibodies i;
    }

-- ## There and back, whatever the buffer or the other tables can hold

pub sheet_again : (b : List ℕ) (t : Tables) (out : List ℕ) (h : Head) → EntriesBelow 256 b → (reading b t).answer ≡ finished h
    → writing h.version h.pairs (reading b t).lent out ≡ unless (room_fault (length out) (length b)) (length b) (filled b out) out
unfolding pool_of writing
sheet_again b t out h bytes e =
    let r = reading_passed b t h e in
    let s : FaultlessSheet b = r.1 in
    let v = version_in b in
    let n = pairs_in b in
    let left : (reading b t).lent ≡ filled_tables (pool_of b) t = ap (λ (o : Outcome Head Tables). o.lent) (reading_none b t s r.2) in
    let t' : Tables = filled_tables (pool_of b) t in
    let w : FaultlessPool v n t' = faultless_filled v (point_at b) n (pair_at b) (shuffle_at b n) t r.2 (sheet_pool b s) in
    let again : sheet_of (pool_in v n t') ≡ b = ap sheet_of (pool_in_filled v (point_at b) n (pair_at b) (shuffle_at b n) t) ∙ sheet_back b bytes s in
    rw (left, r.0)
    (unless_then _ _ _ _ _ (pool_none v n t' w)
    ∙ ap (λ (x : List ℕ). unless (room_fault (length out) (length x)) (length x) (filled x out) out) again)

pub pool_again : (v n : ℕ) (t : Tables) (out : List ℕ) (m : ℕ) (other : Tables) → TablesTyped t → (writing v n t out).answer ≡ finished m
    → reading (take m (writing v n t out).lent) other
    ≡ unless (tables_fault v n (room other) other.points) (head v n) (filled_tables (pool_in v n t) other) other
unfolding pool_in reading
pool_again v n t out m other y e =
    let r = writing_passed v n t out m e in
    let w : FaultlessPool v n t = r.1 in
    let p : ℕ → ℕ = item_in t.points in
    let pair : ℕ → Pair = pair_in t.fields in
    let s : ℕ → ℕ = item_in t.shuffle in
    let x : List ℕ = sheet_of (pool_in v n t) in
    let size : length x ≡ m = length_sheet_in v n t ∙ sym r.0 in
    let left : (writing v n t out).lent ≡ filled x out =
    ap (λ (o : Outcome ℕ (List ℕ)). o.lent) (writing_none v n t out w (omega (arith, r.0, r.2))) in
    let cut : take m (writing v n t out).lent ≡ written v p n pair s =
    ap₂ (λ (k : ℕ) (c : List ℕ). take k c) (sym size) left ∙ take-filled x out ∙ sheet_written v p n pair s in
    let own : (k : ℕ) → k < point_count v → p k < 65536 = λ k l. y.points k in
    let fits : (i : ℕ) → i < n → Fits (pair i) = λ i l. typed_fits t y i in
    let small : (j : ℕ) → j < n → s j < 65536 = λ j l. y.shuffle j in
    let second : head (version_in (written v p n pair s)) (pairs_in (written v p n pair s)) ≡ head v n =
    ap₂ head (says_version v p n pair s w.pool own fits small) (says_pairs v p n pair s w.pool own fits small) in
    rw cut
    (unless_then _ _ _ _ _ (sheet_none (written v p n pair s) (written_faultless v p n pair s w.pool own fits small))
    ∙ ap₂ (λ (h : Head) (q : Pool). unless (tables_fault h.version h.pairs (room other) other.points) h (filled_tables q other) other)
    second (says_pool v p n pair s w.pool own fits small))

-- ## The theorems

pub longest_sheet : LongestSheet
unfolding points_size has_points
longest_sheet =
    record {
      most = λ b s. omega (arith, s.nothing_after, s.head.few, size_most (version_in b));
      most_first = λ b s e. omega (arith, s.nothing_after, s.head.few, first_size (version_in b) e);
      reached = refl;
      reached_first = refl;
    }

pub sheet_comes_back : SheetComesBack
sheet_comes_back b t out h bytes e l = sheet_again b t out h bytes e ∙ unless_none _ _ _ _ (room_none (length out) (length b) l)

pub pool_comes_back : PoolComesBack
pool_comes_back v n t out m other y e h =
    let r = hold_room v n other h in
    pool_again v n t out m other y e ∙ unless_none _ _ _ _ (tables_none v n (room other) other.points r.0 r.1)
