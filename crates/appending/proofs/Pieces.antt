-- The pieces of a joined sheet: the fields of points and pairs as they stand, and what is written one after another. Assumes nothing.
use Prim.Native.Nat.{ℕ, ◌+◌, ◌-◌, ◌*◌, ◌≤◌}
use mathlib.Core.Path.{◌≡◌, sym, ap, ap₂, ◌∙◌}
use mathlib.Core.List.{List, ◌++◌, append_assoc, flat_map}
use native.Mathlib.Nat.{zero-add, add-zero}
use native.Mathlib.Omega.{arith}
use lib.ListN.{length, take, drop, length-append}
use Rattle.laws.specs.Below.{table}
use Rattle.laws.specs.Digits.{bytes}
use Rattle.laws.specs.Lent.{filled, stored}
use Rattle.laws.proofs.Below.{length-table, length-tables, table_cong}
use Rattle.laws.proofs.Digits.{length-bytes}
use Rattle.laws.proofs.Lists.{part, flat_map_append, length_flat_map_table}
use Rattle.laws.proofs.Lent.{stored_then, stored-filled}
use Rattle.pool.specs.Points.{point_count}
use Rattle.pool.specs.Sheet.{shuffle_tag, shuffle_length, field, head_field, numbers_field, points_field, opening, pair_field, sheet_of}
use Rattle.pool.specs.Sheet.{start_length, head_size, points_size, first_pair, pair_size, pair_place, sheet_length, version_in, pairs_in, point_at, pair_at, shuffle_at}
use Rattle.pool.specs.Faultless.{FaultlessSheet}
use Rattle.pool.specs.Joining.{joined_sheet}
use Rattle.pool.specs.Promises.{EntriesBelow}
use Rattle.pool.proofs.Lengths.{length-head_field, length-opening, length-pair_field, length_numbers}
use Rattle.pool.proofs.Read.{points_back, pairs_back}
use Rattle.pool.proofs.Joined.{pair_list, number_list, joined_lists}

-- what lies between the head and the pairs is what writing the points gives
pub points_there : (b : List ℕ) (v to : ℕ) → EntriesBelow 256 b → FaultlessSheet b → v ≡ version_in b → to ≡ first_pair v
    → take (to - head_size) (drop head_size b) ≡ points_field v (table (point_count v) (point_at b))
unfolding part
points_there b v to h s e f =
    let k : to - head_size ≡ points_size v = omega arith in
    ap (λ (j : ℕ). take j (drop head_size b)) (k ∙ ap points_size e)
    ∙ sym (points_back b h s)
    ∙ ap (λ (w : ℕ). points_field w (table (point_count w) (point_at b))) (sym e)

-- what lies between that and the shuffle's field is what writing the pairs gives
pub pairs_there : (b : List ℕ) (v n from to : ℕ) → EntriesBelow 256 b → FaultlessSheet b → v ≡ version_in b → n ≡ pairs_in b → from ≡ first_pair v
    → to ≡ pair_place v n → take (to - from) (drop from b) ≡ flat_map pair_field (table n (pair_at b))
unfolding part
pairs_there b v n from to h s d e f g =
    let k : to - from ≡ pair_size * pairs_in b = omega arith in
    ap₂ (λ (j o : ℕ). take j (drop o b)) k (f ∙ ap first_pair d)
    ∙ sym (pairs_back b h s)
    ∙ ap (λ (j : ℕ). flat_map pair_field (table j (pair_at b))) (sym e)

-- a piece written where the pieces before it end
next : (k : ℕ) (l m old mid new : List ℕ) → length l ≡ k → k ≤ length old → mid ≡ stored 0 l old → new ≡ stored k m mid → new ≡ stored 0 (l ++ m) old
next k l m old mid new g h e f = stored_then 0 k l m old mid new g (omega arith) e (f ∙ ap (λ (i : ℕ). stored i m mid) (sym (zero-add k)))

module _ (a b : List ℕ) (v n m : ℕ) (version : v ≡ version_in a) (few : n ≡ pairs_in a) (more : m ≡ pairs_in b) where
  -- the first's points, and what stands before the pairs
  abbrev own : List ℕ
  own = table (point_count v) (point_at a)

  abbrev head : List ℕ
  head = opening v (n + m) own

  opened : (out o0 o1 : List ℕ) → head_size ≤ length out → o0 ≡ stored 0 (head_field v (n + m)) out → o1 ≡ stored head_size (points_field v own) o0
      → o1 ≡ stored 0 head out
  unfolding opening
  opened out o0 o1 l e f = next head_size _ _ out o0 o1 (length-head_field v (n + m)) l e f

  -- the fields of each one's pairs, the start of the shuffle's field, and each one's numbers
  abbrev pairs : List ℕ → ℕ → List ℕ
  pairs c k = flat_map pair_field (table k (pair_at c))

  abbrev shuffle_start : List ℕ
  shuffle_start = bytes 1 shuffle_tag ++ bytes 2 (shuffle_length (n + m))

  abbrev numbers : List ℕ → ℕ → ℕ → List ℕ
  numbers c k up = flat_map (bytes 2) (table k (λ j. shuffle_at c k j + up))

  -- a sheet by its parts
  abbrev sheet_by : ℕ → List ℕ → ℕ → List ℕ → List ℕ
  sheet_by k ps size values = opening v k own ++ (ps ++ (bytes 1 shuffle_tag ++ (bytes 2 size ++ values)))

  joined_pieces : joined_sheet a b ≡ ((((head ++ pairs a n) ++ pairs b m) ++ shuffle_start) ++ numbers a n 0) ++ numbers b m n
  unfolding joined_sheet sheet_of numbers_field field
  joined_pieces =
      let ps = table n (pair_at a) ++ table m (pair_at b) in
      let zs = table n (λ j. shuffle_at a n j + 0) ++ table m (λ j. shuffle_at b m j + n) in
      let lists : joined_sheet a b ≡ sheet_of (record { version = v; points = own; pairs = ps; shuffle = zs }) =
      ap sheet_of (joined_lists a b)
      ∙ ap (λ (w : ℕ). sheet_of (record { version = w; points = table (point_count w) (point_at a); pairs = pair_list a b; shuffle = number_list a b })) (sym version)
      ∙ rw (← few, ← more)
      (ap (λ (l : List ℕ). sheet_of (record { version = v; points = own; pairs = ps; shuffle = l ++ table m (λ j. shuffle_at b m j + n) }))
      (table_cong n (shuffle_at a n) (λ j. shuffle_at a n j + 0) (λ j l. sym (add-zero (shuffle_at a n j))))) in
      let size : length (flat_map (bytes 2) zs) ≡ shuffle_length (n + m) = length_numbers zs ∙ ap (λ (k : ℕ). 2 * k) (length-tables n m _ _) in
      lists
      ∙ ap (λ (k : ℕ). sheet_by k (flat_map pair_field ps) (length (flat_map (bytes 2) zs)) (flat_map (bytes 2) zs)) (length-tables n m _ _)
      ∙ ap (λ (k : ℕ). sheet_by (n + m) (flat_map pair_field ps) k (flat_map (bytes 2) zs)) size
      ∙ ap₂ (λ (p v : List ℕ). sheet_by (n + m) p (shuffle_length (n + m)) v)
      (flat_map_append pair_field (table n (pair_at a)) (table m (pair_at b)))
      (flat_map_append (bytes 2) (table n (λ j. shuffle_at a n j + 0)) (table m (λ j. shuffle_at b m j + n)))
      ∙ simp append_assoc

  -- written one after another, each where the one before it ends
  module _ (out o0 o1 o2 o3 o4 o5 o6 : List ℕ) (long : sheet_length v (n + m) ≤ length out) (first from at : ℕ) (c : first ≡ first_pair v)
      (f : from ≡ pair_place v n) (g : at ≡ pair_place v (n + m)) where
    pub pieces_written : o0 ≡ stored 0 (head_field v (n + m)) out → o1 ≡ stored head_size (points_field v own) o0 → o2 ≡ stored first (pairs a n) o1
        → o3 ≡ stored from (pairs b m) o2 → o4 ≡ stored at shuffle_start o3 → o5 ≡ stored (at + start_length) (numbers a n 0) o4
        → o6 ≡ stored (at + start_length + 2 * n) (numbers b m n) o5 → o6 ≡ filled (joined_sheet a b) out
    pieces_written e0 e1 e2 e3 e4 e5 e6 =
        let h : length head ≡ first_pair v = length-opening v (n + m) own (length-table (point_count v) (point_at a)) in
        let d1 = opened out o0 o1 (omega arith) e0 e1 in
        let p : (c : List ℕ) (k : ℕ) → length (pairs c k) ≡ pair_size * k = λ c k. length_flat_map_table pair_field pair_size length-pair_field k (pair_at c) in
        let z : (c : List ℕ) (k up : ℕ) → length (numbers c k up) ≡ 2 * k = λ c k up. length_flat_map_table (bytes 2) 2 (length-bytes 2) k _ in
        let d2 = next _ head _ out o1 o2 (h ∙ sym c) (omega arith) d1 e2 in
        let d3 = next _ _ _ out o2 o3 (simp (length-append, h, p a n) (omega arith)) (omega arith) d2 e3 in
        let d4 = next _ _ _ out o3 o4 (simp (length-append, h, p a n, p b m) (omega arith)) (omega arith) d3 e4 in
        let d5 = next _ _ _ out o4 o5 (simp (length-append, h, p a n, p b m, length-bytes) (omega arith)) (omega arith) d4 e5 in
        let d6 = next _ _ _ out o5 o6 (simp (length-append, h, p a n, p b m, length-bytes, z a n 0) (omega arith)) (omega arith) d5 e6 in
        d6 ∙ ap (λ (l : List ℕ). stored 0 l out) (sym joined_pieces) ∙ stored-filled (joined_sheet a b) out
