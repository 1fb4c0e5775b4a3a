-- What is written is read back: the sheet of n faultless pairs, their points and their shuffle has no fault, and says them. Assumes nothing.
use mathlib.Core.Path.{◌≡◌, refl, sym, ap, ◌∙◌}
use mathlib.Core.List.{List, [], ◌++◌, append_assoc, append-nil, flat_map}
use Prim.Native.Nat.{ℕ, ◌+◌, ◌*◌, ◌^◌, ◌≤◌, ◌<◌}
use native.Mathlib.Nat.{add-zero, zero-add}
use native.Mathlib.Omega.{arith}
use lib.Dec.{lit<, lit≤}
use lib.ListN.{length, length-append}
use Rattle.laws.specs.Below.{table}
use Rattle.laws.specs.Digits.{big_endian, bytes}
use Rattle.laws.proofs.Below.{length-table, get_or-table, table_cong}
use Rattle.laws.proofs.Lists.{part, part_in, part_at, part_skip, part_flat_map, length_flat_map_table}
use Rattle.laws.proofs.Digits.{length-bytes, big_endian_at}
use Rattle.pool.specs.Pool.{Pair, Pool}
use Rattle.pool.specs.Points.{point_count}
use Rattle.pool.specs.Sheet.{head_tag, head_length, pair_tag, pair_length, shuffle_tag, shuffle_length, points_tag, field, head_field, numbers_field, points_field, opening, pair_field, shuffle_field, sheet_of, pair_due}
use Rattle.pool.specs.Sheet.{start_length, version_place, pairs_place, head_size, points_place, first_pair, pair_size, pair_place, sheet_length, number_at, version_in, pairs_in, point_at, pair_at, shuffle_at, pool_of}
use Rattle.pool.specs.Sheet.{id_at, donor_blood_at, patient_blood_at, donor_age_at, patient_age_at, donor_antigens_at, patient_antigens_at, patient_antibodies_at}
use Rattle.pool.specs.Faultless.{InRange, Faultless, Field, HeadField, PointsField, PairField, FaultlessSheet}
use Rattle.pool.proofs.Points.{second_has, second_count, counted_second, second_points_lem}
use Rattle.pool.proofs.Lengths.{length-head_field, length-pair_field, length-numbers_field, length-opening}
use Rattle.pool.proofs.Pairs.{faultless_cong}

-- a pair whose numbers of several bytes fit them
pub record Fits (q : Pair) : Type 0 where
  pub id : q.id < 256 ^ 4
  pub donor_antigens : q.donor_antigens < 256 ^ 8
  pub patient_antigens : q.patient_antigens < 256 ^ 8
  pub patient_antibodies : q.patient_antibodies < 256 ^ 8

-- ## A pair's field, where its bytes are known

module _ (w : List ℕ) (i : ℕ) (q : Pair) (e : part w (pair_due w i) pair_size ≡ pair_field q) where
  in_pair : (a k x : ℕ) → a + k ≤ pair_size → part (pair_field q) a k ≡ bytes k x → x < 256 ^ k → big_endian k w (pair_due w i + a) ≡ x
  in_pair a k x l g h = big_endian_at k w (pair_due w i + a) x (part_in w (pair_due w i) pair_size a k e l ∙ g) h

  pair_field_lem : pair_due w i + pair_size ≤ length w → PairField w i
  unfolding pair_field field bytes part
  pair_field_lem l =
      record {
        whole = omega arith;
        tagged = ap (big_endian 1 w) (sym (add-zero (pair_due w i))) ∙ in_pair 0 1 pair_tag (lit≤ tt) refl (lit< tt);
        sized = in_pair 1 2 pair_length (lit≤ tt) refl (lit< tt);
      }

  pair_read : InRange q → Fits q → pair_at w i ≡ q
  unfolding pair_field pair_at field bytes part
  pair_read r f =
      let e1 : big_endian 4 w (pair_due w i + id_at) ≡ q.id = in_pair id_at 4 q.id (lit≤ tt) refl f.id in
      let e2 : big_endian 1 w (pair_due w i + donor_blood_at) ≡ q.donor_blood = in_pair donor_blood_at 1 q.donor_blood (lit≤ tt) refl (omega (arith, r.donor_blood)) in
      let e3 : big_endian 1 w (pair_due w i + patient_blood_at) ≡ q.patient_blood = in_pair patient_blood_at 1 q.patient_blood (lit≤ tt) refl (omega (arith, r.patient_blood)) in
      let e4 : big_endian 1 w (pair_due w i + donor_age_at) ≡ q.donor_age = in_pair donor_age_at 1 q.donor_age (lit≤ tt) refl (omega (arith, r.donor_age)) in
      let e5 : big_endian 1 w (pair_due w i + patient_age_at) ≡ q.patient_age = in_pair patient_age_at 1 q.patient_age (lit≤ tt) refl (omega (arith, r.patient_age)) in
      let e6 : big_endian 8 w (pair_due w i + donor_antigens_at) ≡ q.donor_antigens = in_pair donor_antigens_at 8 q.donor_antigens (lit≤ tt) refl f.donor_antigens in
      let e7 : big_endian 8 w (pair_due w i + patient_antigens_at) ≡ q.patient_antigens = in_pair patient_antigens_at 8 q.patient_antigens (lit≤ tt) refl f.patient_antigens in
      let e8 : big_endian 8 w (pair_due w i + patient_antibodies_at) ≡ q.patient_antibodies = in_pair patient_antibodies_at 8 q.patient_antibodies (lit≤ tt) refl f.patient_antibodies in
      λ i. record {
        id = e1 i;
        donor_blood = e2 i;
        patient_blood = e3 i;
        donor_age = e4 i;
        patient_age = e5 i;
        donor_antigens = e6 i;
        patient_antigens = e7 i;
        patient_antibodies = e8 i;
      }

-- ## A field of k two-byte numbers, where it stands at o

module _ (xs ys : List ℕ) (o tag k : ℕ) (s : ℕ → ℕ) (e : length xs ≡ o) where
  abbrev within : List ℕ
  within = xs ++ (numbers_field tag (table k s) ++ ys)

  value_length : length (flat_map (bytes 2) (table k s)) ≡ 2 * k
  value_length = length_flat_map_table (bytes 2) 2 (length-bytes 2) k s

  start_length_lem : (m : ℕ) → length (bytes 1 tag ++ bytes 2 m) ≡ start_length
  start_length_lem m = rw (length-append, length-bytes, length-bytes)

  numbers_start : part within o start_length ≡ bytes 1 tag ++ bytes 2 (2 * k)
  unfolding numbers_field field
  numbers_start =
      let D : List ℕ = flat_map (bytes 2) (table k s) in
      let f : within ≡ xs ++ ((bytes 1 tag ++ bytes 2 (2 * k)) ++ (D ++ ys)) = simp (value_length, append_assoc) in
      rw f (part_at xs _ _ o start_length e (start_length_lem (2 * k)))

  numbers_number : (j : ℕ) → j < k → part within (o + start_length + 2 * j) 2 ≡ bytes 2 (s j)
  unfolding numbers_field field
  numbers_number j l =
      let D : List ℕ = flat_map (bytes 2) (table k s) in
      let before : List ℕ = xs ++ (bytes 1 tag ++ bytes 2 (length D)) in
      let f : within ≡ before ++ (D ++ ys) = simp append_assoc in
      let m : length before ≡ o + start_length = rw (length-append, e, start_length_lem (length D)) in
      rw f
      (part_skip before (D ++ ys) (o + start_length) (2 * j) 2 m
      ∙ part_flat_map (bytes 2) 2 (length-bytes 2) 0 (table k s) ys j (rw length-table l)
      ∙ ap (bytes 2) (get_or-table k s 0 j l))

  says_numbers : (j : ℕ) → j < k → s j < 256 ^ 2 → number_at within o j ≡ s j
  unfolding number_at
  says_numbers j l h = big_endian_at 2 within (o + start_length + 2 * j) (s j) (numbers_number j l) h

  numbers_field_lem : tag < 256 ^ 1 → 2 * k < 256 ^ 2 → Field within o tag (2 * k)
  unfolding bytes part
  numbers_field_lem h l =
      record {
        whole = simp (length-append, e, length-numbers_field, length-table) (omega arith);
        tagged =
            ap (big_endian 1 within) (sym (add-zero o))
            ∙ big_endian_at 1 within (o + 0) tag (part_in within o start_length 0 1 numbers_start (lit≤ tt)) h;
        sized = big_endian_at 2 within (o + 1) (2 * k) (part_in within o start_length 1 2 numbers_start (lit≤ tt)) l;
      }

-- ## The parts of a written sheet

module _ (v : ℕ) (p : ℕ → ℕ) (n : ℕ) (pair : ℕ → Pair) (s : ℕ → ℕ) where
  abbrev pub pooled : Pool
  pooled = record { version = v; points = table (point_count v) p; pairs = table n pair; shuffle = table n s }

  abbrev opened : List ℕ
  opened = opening v n (table (point_count v) p)

  abbrev pub written : List ℕ
  written = opened ++ (flat_map pair_field (table n pair) ++ shuffle_field (table n s))

  pub sheet_written : sheet_of pooled ≡ written
  unfolding sheet_of
  sheet_written = rw length-table

  length_opened : length opened ≡ first_pair v
  length_opened = length-opening v n (table (point_count v) p) (length-table (point_count v) p)

  length_pairs : length (flat_map pair_field (table n pair)) ≡ pair_size * n
  length_pairs = length_flat_map_table pair_field pair_size length-pair_field n pair

  pub length-written : length written ≡ sheet_length v n
  length-written = simp (length-append, length_opened, length_pairs, length-numbers_field, length-table) (omega arith)

  written_pair : (i : ℕ) → i < n → part written (pair_place v i) pair_size ≡ pair_field (pair i)
  written_pair i l =
      part_skip opened _ (first_pair v) (pair_size * i) pair_size length_opened
      ∙ part_flat_map pair_field pair_size length-pair_field (pair i) (table n pair) _ i (rw length-table l)
      ∙ ap pair_field (get_or-table n pair (pair i) i l)

  -- what stands before the shuffle, and round the points
  abbrev before_shuffle : List ℕ
  before_shuffle = opened ++ flat_map pair_field (table n pair)

  length_before : length before_shuffle ≡ pair_place v n
  length_before = rw (length-append, length_opened, length_pairs)

  shuffle_within : written ≡ before_shuffle ++ (shuffle_field (table n s) ++ [])
  shuffle_within = simp (append_assoc, append-nil)

  points_within : v ≡ 2 → written
      ≡ head_field v n ++ (numbers_field points_tag (table 6 p) ++ (flat_map pair_field (table n pair) ++ shuffle_field (table n s)))
  unfolding opening points_field
  points_within e = simp (second_has v e, second_count v e, append_assoc)

  written-head : part written 0 head_size ≡ head_field v n
  unfolding opening
  written-head = rw append_assoc (part_at [] (head_field v n) _ 0 head_size refl (length-head_field v n))

  in_head : (a k x : ℕ) → a + k ≤ head_size → part (head_field v n) a k ≡ bytes k x → x < 256 ^ k → big_endian k written a ≡ x
  in_head a k x l g h =
      big_endian_at k written a x (ap (λ (i : ℕ). part written i k) (sym (zero-add a)) ∙ part_in written 0 head_size a k written-head l ∙ g) h

  -- ## It has no fault, and says what was written

  module _ (w : Faultless v p n pair s) (own : (k : ℕ) → k < point_count v → p k < 256 ^ 2) (fits : (i : ℕ) → i < n → Fits (pair i))
      (small : (j : ℕ) → j < n → s j < 256 ^ 2) where
    pub says_pairs : pairs_in written ≡ n
    unfolding pairs_in head_field field bytes part
    says_pairs = in_head pairs_place 2 n (lit≤ tt) refl (omega (arith, w.few))

    pub says_version : version_in written ≡ v
    unfolding version_in head_field field bytes part
    says_version = in_head version_place 2 v (lit≤ tt) refl (omega (arith, w.version.most))

    pub says_pair : (i : ℕ) → i < n → pair_at written i ≡ pair i
    says_pair i l = pair_read written i (pair i) (rw says_version (written_pair i l)) (w.in_range i l) (fits i l)

    pub says_number : (j : ℕ) → j < n → shuffle_at written n j ≡ s j
    says_number j l = rw (says_version, shuffle_within) (says_numbers before_shuffle [] (pair_place v n) shuffle_tag n s length_before j l (small j l))

    pub says_point : (k : ℕ) → k < point_count v → point_at written k ≡ p k
    says_point k l =
        let e : v ≡ 2 = counted_second v k l in
        rw (points_within e)
        (says_numbers (head_field v n) _ points_place points_tag 6 p (length-head_field v n) k (rw (second_count v e) at l) (own k l))

    head-field : HeadField written
    unfolding head_field field bytes part
    head-field =
        record {
          whole = omega (arith, length-written);
          tagged = in_head 0 1 head_tag (lit≤ tt) refl (lit< tt);
          sized = in_head 1 2 head_length (lit≤ tt) refl (lit< tt);
        }

    points_field_lem : v ≡ 2 → PointsField written
    points_field_lem e =
        rw (points_within e) (numbers_field_lem (head_field v n) _ points_place points_tag 6 p (length-head_field v n) (lit< tt) (lit< tt))

    shuffle_field_lem : Field written (pair_place v n) shuffle_tag (shuffle_length n)
    shuffle_field_lem =
        rw shuffle_within (numbers_field_lem before_shuffle [] (pair_place v n) shuffle_tag n s length_before (lit< tt) (omega (arith, w.few)))

    -- its points, its pairs and its shuffle have no fault
    written_pool : Faultless v (point_at written) n (pair_at written) (shuffle_at written n)
    written_pool =
        faultless_cong v n p (point_at written) pair (pair_at written) s (shuffle_at written n) (λ k l. sym (says_point k l))
        (λ i l. sym (says_pair i l)) (λ j l. sym (says_number j l)) w

    pub written_faultless : FaultlessSheet written
    written_faultless =
        record {
          head = record { field = head-field; version = rw says_version w.version; few = rw says_pairs w.few };
          points =
              λ e.
              let second : v ≡ 2 = sym says_version ∙ e in
              record { field = points_field_lem second; sound = rw (← second_points_lem v (point_at written) second) written_pool.points };
          pair =
              λ i l.
              let k : i < n = rw says_pairs at l in
              record {
                field = pair_field_lem written i (pair i) (rw says_version (written_pair i k)) (rw says_version (omega (arith, length-written)));
                in_range = written_pool.in_range i k;
                unlike = λ j m. written_pool.unlike i j m k;
              };
          shuffle = record { field = rw (says_version, says_pairs) shuffle_field_lem; each_once = rw says_pairs written_pool.each_once };
          nothing_after = rw (says_version, says_pairs) length-written;
        }

    pub says_pool : pool_of written ≡ pooled
    unfolding pool_of
    says_pool =
        let e0 : table (point_count (version_in written)) (point_at written) ≡ table (point_count v) p =
        rw says_version (table_cong (point_count v) (point_at written) p says_point) in
        let e1 : table (pairs_in written) (pair_at written) ≡ table n pair = rw says_pairs (table_cong n (pair_at written) pair says_pair) in
        let e2 : table (pairs_in written) (shuffle_at written (pairs_in written)) ≡ table n s =
        rw says_pairs (table_cong n (shuffle_at written n) s says_number) in
        λ i. record { version = says_version i; points = e0 i; pairs = e1 i; shuffle = e2 i }
