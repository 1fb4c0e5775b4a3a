-- What was read is written back: the sheet of the pool that a faultless sheet says is that sheet. Assumes nothing.
use mathlib.Core.Path.{◌≡◌, refl, sym, ap, ap₂, ◌∙◌}
use mathlib.Core.Bool.{Bool, true, false, cond}
use mathlib.Core.List.{List, [], ◌++◌, flat_map}
use Prim.Native.Nat.{ℕ, ◌+◌, ◌*◌, ◌≤◌}
use native.Mathlib.Nat.{add_assoc, zero-add}
use native.Mathlib.Omega.{arith}
use lib.ListN.{length}
use Rattle.laws.specs.Below.{table}
use Rattle.laws.specs.Digits.{big_endian, bytes}
use Rattle.laws.proofs.Below.{length-table}
use Rattle.laws.proofs.Lists.{part, part_add, part_whole, flat_map_part, length_flat_map_table}
use Rattle.laws.proofs.Digits.{length-bytes, bytes-big_endian}
use Rattle.pool.specs.Points.{has_points, point_count}
use Rattle.pool.specs.Sheet.{head_tag, head_length, pair_tag, pair_length, shuffle_tag, shuffle_length, points_tag, field, head_field, numbers_field, points_field, opening, pair_field, sheet_of, pair_due, shuffle_due}
use Rattle.pool.specs.Sheet.{start_length, version_place, pairs_place, head_size, points_place, points_size, first_pair, pair_size, number_at, version_in, pairs_in, point_at, pair_at, pool_of}
use Rattle.pool.specs.Sheet.{id_at, donor_blood_at, patient_blood_at, donor_age_at, patient_age_at, donor_antigens_at, patient_antigens_at, patient_antibodies_at}
use Rattle.pool.specs.Faultless.{Field, PairField, FaultlessSheet}
use Rattle.pool.specs.Promises.{EntriesBelow}
use Rattle.pool.proofs.Points.{has_second}
use Rattle.pool.proofs.Lengths.{length-pair_field}

module _ (b : List ℕ) (h : EntriesBelow 256 b) where
  -- a number, then what follows it
  number_back : (o a k m : ℕ) (rest : List ℕ) → o + (a + k) ≤ length b → rest ≡ part b (o + (a + k)) m
      → bytes k (big_endian k b (o + a)) ++ rest ≡ part b (o + a) (k + m)
  number_back o a k m rest l e =
      ap₂ (λ (x y : List ℕ). x ++ y) (bytes-big_endian k b (o + a) h (omega arith)) (e ∙ ap (λ (i : ℕ). part b i m) (sym (add_assoc o a k)))
      ∙ sym (part_add b (o + a) k m)

  -- a field, whose value is read back
  field_back : (o tag len : ℕ) (value : List ℕ) → Field b o tag len → length value ≡ len → value ≡ part b (o + start_length) len → field tag value ≡ part b o (start_length + len)
  unfolding field
  field_back o tag len value f n e =
      ap₂ (λ (x y : ℕ). bytes 1 x ++ (bytes 2 y ++ value)) (sym f.tagged) (n ∙ sym f.sized)
      ∙ ap (λ (x : List ℕ). bytes 1 (big_endian 1 b o) ++ x) (number_back o 1 2 len value (omega (arith, f.whole)) e)
      ∙ ap (λ (x : List ℕ). x ++ part b (o + 1) (2 + len)) (bytes-big_endian 1 b o h (omega (arith, f.whole)))
      ∙ sym (part_add b o 1 (2 + len))
      ∙ ap (λ (i : ℕ). part b o i) (omega arith)

  -- a field of k numbers of two bytes
  numbers_back : (o tag k : ℕ) → Field b o tag (2 * k) → numbers_field tag (table k (number_at b o)) ≡ part b o (start_length + 2 * k)
  unfolding numbers_field number_at
  numbers_back o tag k f =
      field_back o tag (2 * k) _ f (length_flat_map_table (bytes 2) 2 (length-bytes 2) k (number_at b o))
      (flat_map_part (bytes 2) 2 (length-bytes 2) b (o + start_length) k (number_at b o)
      (λ j l. bytes-big_endian 2 b (o + start_length + 2 * j) h (omega (arith, f.whole))))

  pair_back : (i : ℕ) → PairField b i → pair_field (pair_at b i) ≡ part b (pair_due b i) pair_size
  unfolding pair_field pair_at bytes
  pair_back i f =
      let o = pair_due b i in
      let l : o + pair_size ≤ length b = omega (arith, f.whole) in
      field_back o pair_tag pair_length _ f refl
      (number_back o id_at 4 28 _ (omega arith)
      (number_back o donor_blood_at 1 27 _ (omega arith)
      (number_back o patient_blood_at 1 26 _ (omega arith)
      (number_back o donor_age_at 1 25 _ (omega arith)
      (number_back o patient_age_at 1 24 _ (omega arith)
      (number_back o donor_antigens_at 8 16 _ (omega arith) (number_back o patient_antigens_at 8 8 _ (omega arith) (bytes-big_endian 8 b (o + patient_antibodies_at) h (omega arith)))))))))

  module _ (s : FaultlessSheet b) where
    head_back : head_field (version_in b) (pairs_in b) ≡ part b 0 head_size
    unfolding head_field version_in pairs_in bytes
    head_back =
        let l : head_size ≤ length b = omega (arith, s.head.field.whole) in
        field_back 0 head_tag head_length _ s.head.field refl
        (number_back 0 version_place 2 2 _ (omega arith) (bytes-big_endian 2 b pairs_place h (omega arith)))

    -- the points, which are there in version 2
    pub points_back : points_field (version_in b) (table (point_count (version_in b)) (point_at b)) ≡ part b points_place (points_size (version_in b))
    unfolding points_field point_count points_size part
    points_back = go (has_points (version_in b)) (has_second (version_in b))
      where
        go : (t : Bool) → (t ≡ true → version_in b ≡ 2)
            → cond t (numbers_field points_tag (table (cond t 6 0) (point_at b))) [] ≡ part b points_place (cond t 15 0)
        go true e = numbers_back points_place points_tag 6 (s.points (e refl)).field
        go false e = refl

    opening_back : opening (version_in b) (pairs_in b) (table (point_count (version_in b)) (point_at b)) ≡ part b 0 (first_pair (version_in b))
    unfolding opening
    opening_back = ap₂ (λ (x y : List ℕ). x ++ y) head_back points_back ∙ sym (part_add b 0 head_size (points_size (version_in b)))

    pub pairs_back : flat_map pair_field (table (pairs_in b) (pair_at b)) ≡ part b (first_pair (version_in b)) (pair_size * pairs_in b)
    pairs_back =
        flat_map_part pair_field pair_size length-pair_field b (first_pair (version_in b)) (pairs_in b) (pair_at b) (λ i l. pair_back i (s.pair i l).field)

    pub sheet_back : sheet_of (pool_of b) ≡ b
    unfolding sheet_of pool_of
    sheet_back =
        let n = pairs_in b in
        let o = first_pair (version_in b) in
        rw length-table
        (ap₂ (λ (x y : List ℕ). x ++ y) opening_back
        (ap₂ (λ (x y : List ℕ). x ++ y) pairs_back (numbers_back (shuffle_due b) shuffle_tag n s.shuffle.field)
        ∙ sym (part_add b o (pair_size * n) (start_length + shuffle_length n)))
        ∙ ap (λ (i : ℕ). part b 0 o ++ part b i (pair_size * n + (start_length + shuffle_length n))) (sym (zero-add o))
        ∙ sym (part_add b 0 o (pair_size * n + (start_length + shuffle_length n)))
        ∙ part_whole b (o + (pair_size * n + (start_length + shuffle_length n))) (omega (arith, s.nothing_after)))
