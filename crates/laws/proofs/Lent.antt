-- Laws of `specs/Lent.antt`, and a turn of the loops that fill a table or write pieces in a row. Assumes nothing.
use mathlib.Core.Path.{◌≡◌, refl, sym, ap, ap₂, ◌∙◌}
use mathlib.Core.List.{List, [], ◌∷◌, ◌++◌, append_assoc, flat_map}
use Prim.Native.Nat.{ℕ, zero, suc, ◌+◌, ◌-◌, ◌*◌, ◌/◌, ◌%◌, ◌≤◌, ◌<◌}
use native.Mathlib.Nat.{zero-add, add-zero}
use native.Mathlib.Numerals.{add-one}
use native.Mathlib.Omega.{arith}
use lib.ListN.{length, get_or, take, drop, set, length-append, length-take, length-drop, length-set, take-append-drop, get_or-append}
use lib.Seq.{drop-drop, take_at, set_at, drop-cons, drop-append-add, take-set-le, drop-set-add, take-append_seam, set_split, get_or-drop, get_or-append-add}
use Rattle.laws.specs.Below.{table}
use Rattle.laws.specs.Digits.{bytes}
use Rattle.laws.specs.Lent.{filled, stored}
use Rattle.laws.proofs.Below.{length-table, get_or-table}
use Rattle.laws.proofs.Lists.{flat_map_suc, length_flat_map_table}
use Rattle.laws.proofs.Digits.{length-bytes}

-- ## filled

module _ {A : Type 0} where
  pub length-filled : (new old : List A) → length new ≤ length old → length (filled new old) ≡ length old
  unfolding filled
  length-filled new old l = simp (length-append, length-drop) (omega arith)

  pub get_or-filled : (new old : List A) (d : A) (i : ℕ) → i < length new → get_or (filled new old) i d ≡ get_or new i d
  unfolding filled
  get_or-filled new old d i l = get_or-append new (drop (length new) old) d i l

  pub take-filled : (new old : List A) → take (length new) (filled new old) ≡ new
  unfolding filled
  take-filled new old = take-append_seam new (drop (length new) old)

  -- a store right after what is filled
  pub filled_next : (new old : List A) (x : A) (i : ℕ) → length new ≡ i → i < length old → set (filled new old) i x ≡ filled (new ++ (x ∷ [])) old
  unfolding filled
  filled_next new old x i e l =
      let f : length (new ++ (x ∷ [])) ≡ suc i = simp length-append (omega arith) in
      rw (f, e, drop-cons old i x l) (set_at new (get_or old i x) (drop (suc i) old) x i e ∙ rw append_assoc)

-- a store takes a table filled to i to one filled to i + 1
filled_more : {A : Type 0} (i : ℕ) (f : ℕ → A) (old : List A) → i < length old → set (filled (table i f) old) i (f i) ≡ filled (table (i + 1) f) old
unfolding table
filled_more i f old l = rw add-one (filled_next (table i f) old (f i) i (length-table i f) l)

-- a loop that fills a table: t is `old` filled to i, and as long
pub record Filling {A : Type 0} (i : ℕ) (f : ℕ → A) (old t : List A) : Type 0 where
  pub holds : t ≡ filled (table i f) old
  pub kept : length t ≡ length old

module _ {A : Type 0} where
  pub filling_none : (f : ℕ → A) (old : List A) → Filling 0 f old old
  unfolding filled table
  filling_none f old = record { holds = refl; kept = refl }

  pub filling_more : (i : ℕ) (f : ℕ → A) (old t : List A) (x : A) → Filling i f old t → x ≡ f i → i < length old → Filling (i + 1) f old (set t i x)
  filling_more i f old t x w g l =
      record { holds = ap₂ (λ (s : List A) (y : A). set s i y) w.holds g ∙ filled_more i f old l; kept = length-set t i x ∙ w.kept }

  pub filling_all : (i n : ℕ) (f : ℕ → A) (old t : List A) → Filling i f old t → i ≡ n → t ≡ filled (table n f) old
  filling_all i n f old t w g = w.holds ∙ ap (λ (k : ℕ). filled (table k f) old) g

-- what stands in a table that was filled
pub filled_at : (n : ℕ) (f : ℕ → ℕ) (old new : List ℕ) → new ≡ filled (table n f) old → (j : ℕ) → j < n → get_or new j 0 ≡ f j
filled_at n f old new e j l =
    ap (λ (t : List ℕ). get_or t j 0) e ∙ get_or-filled (table n f) old 0 j (rw length-table l) ∙ get_or-table n f 0 j l

-- ## stored

module _ {A : Type 0} where
  pub stored_none : (at : ℕ) (old : List A) → stored at [] old ≡ old
  unfolding stored
  stored_none at old = rw add-zero (take-append-drop at old)

  pub length-stored : (at : ℕ) (l old : List A) → at + length l ≤ length old → length (stored at l old) ≡ length old
  unfolding stored
  length-stored at l old h = simp (length-append, length-take, length-drop) (omega arith)

  pub stored-filled : (l old : List A) → stored 0 l old ≡ filled l old
  unfolding stored filled
  stored-filled l old = rw zero-add

  pub stored_one : (at : ℕ) (x : A) (old : List A) → at < length old → set old at x ≡ stored at (x ∷ []) old
  unfolding stored
  stored_one at x old h = set_split old at x h ∙ ap (λ (k : ℕ). take at old ++ (x ∷ drop k old)) (sym (add-one at))

  -- past what is stored all stands as it did
  pub get_or-stored_past : (at : ℕ) (l old : List A) (d : A) (i : ℕ) → at + length l ≤ length old → at + length l ≤ i → get_or (stored at l old) i d ≡ get_or old i d
  unfolding stored
  get_or-stored_past at l old d i h k =
      let xs : List A = take at old ++ l in
      let n = at + length l in
      let g : length xs ≡ n = simp (length-append, length-take) (omega arith) in
      let e : i ≡ length xs + (i - n) = omega arith in
      let f : n + (i - n) ≡ i = omega arith in
      ap₂ (λ (m : List A) (j : ℕ). get_or m j d) (sym (append_assoc (take at old) l (drop n old))) e
      ∙ get_or-append-add xs (drop n old) (i - n) d
      ∙ get_or-drop n old (i - n) d
      ∙ ap (λ (j : ℕ). get_or old j d) f

  -- what is filled from the start on, the first entries of which are what stood there, is what is stored after these
  pub filled-stored : (at : ℕ) (l old : List A) → at ≤ length old → filled (take at old ++ l) old ≡ stored at l old
  unfolding filled stored
  filled-stored at l old h =
      let g : length (take at old ++ l) ≡ at + length l = simp (length-append, length-take) (omega arith) in
      rw (g, append_assoc)

  -- one list after another
  stored-stored : (at n : ℕ) (l m old : List A) → n ≡ at + length l → at + length l ≤ length old → stored n m (stored at l old) ≡ stored at (l ++ m) old
  unfolding stored
  stored-stored at n l m old e h =
      let xs : List A = take at old ++ l in
      let g : length xs ≡ n = simp (length-append, length-take) (omega arith) in
      let a : take at old ++ (l ++ drop (at + length l) old) ≡ xs ++ drop (at + length l) old = rw append_assoc in
      let j : at + length l + length m ≡ at + length (l ++ m) = simp length-append (omega arith) in
      let d : drop (n + length m) (xs ++ drop (at + length l) old) ≡ drop (at + length (l ++ m)) old =
      ap (λ (k : ℕ). drop (k + length m) (xs ++ drop (at + length l) old)) (sym g)
      ∙ drop-append-add xs (drop (at + length l) old) (length m)
      ∙ drop-drop (length m) (at + length l) old
      ∙ ap (λ (k : ℕ). drop k old) j in
      rw (a, take_at xs (drop (at + length l) old) n g, d) (simp append_assoc)

  -- a second piece goes where the first one ends
  pub stored_then : (at k : ℕ) (l m old mid new : List A) → length l ≡ k → at + k ≤ length old → mid ≡ stored at l old → new ≡ stored (at + k) m mid
      → new ≡ stored at (l ++ m) old
  stored_then at k l m old mid new g h e f =
      f ∙ ap (stored (at + k) m) e ∙ stored-stored at (at + k) l m old (ap (λ (n : ℕ). at + n) (sym g)) (omega arith)

-- one more element, stored before the others
stored_more : (at : ℕ) (l : List ℕ) (y : ℕ) (old : List ℕ) → at + length l < length old
    → stored at (l ++ (y ∷ [])) old ≡ stored at l (set old (at + length l) y)
unfolding stored
stored_more at l y old h =
    let n = at + length l in
    let e : drop n (set old n y) ≡ y ∷ drop (suc n) old =
    ap (λ (k : ℕ). drop n (set old k y)) (sym (add-zero n)) ∙ drop-set-add n old 0 y ∙ rw (drop-cons old n 0) in
    let f : at + length (l ++ (y ∷ [])) ≡ suc n = simp length-append (omega arith) in
    rw (take-set-le at old n y (omega arith), e, f) (rw append_assoc)

-- a turn of the loop that writes a number, its last byte first
pub bytes_turn : (at i x : ℕ) (out : List ℕ) → 0 < i → at + i ≤ length out
    → stored at (bytes (i - 1) (x / 256)) (set out (at + (i - 1)) (x % 256)) ≡ stored at (bytes i x) out
unfolding bytes
bytes_turn at zero x out l h = absurd (omega arith)
bytes_turn at (suc m) x out l h =
    let e : suc m - 1 ≡ m = omega arith in
    let b : length (bytes m (x / 256)) ≡ m = length-bytes m (x / 256) in
    rw e
    (ap (λ (k : ℕ). stored at (bytes m (x / 256)) (set out (at + k) (x % 256))) (sym b)
    ∙ sym (stored_more at (bytes m (x / 256)) (x % 256) out (omega arith)))

-- ## A loop that writes pieces of m elements in a row, from `at` on: out is `old` with i of them in it, and as long

pub record Pieces {A : Type 0} (at i : ℕ) (g : A → List ℕ) (f : ℕ → A) (old out : List ℕ) : Type 0 where
  pub holds : out ≡ stored at (flat_map g (table i f)) old
  pub kept : length out ≡ length old

module _ {A : Type 0} (at : ℕ) (g : A → List ℕ) (f : ℕ → A) (old : List ℕ) where
  pub pieces_none : Pieces at 0 g f old old
  unfolding table flat_map
  pieces_none = record { holds = sym (stored_none at old); kept = refl }

  pub pieces_more : (m i : ℕ) (mid new : List ℕ) → ((a : A) → length (g a) ≡ m) → at + m * i ≤ length old → Pieces at i g f old mid
      → new ≡ stored (at + m * i) (g (f i)) mid → length new ≡ length mid → Pieces at (i + 1) g f old new
  pieces_more m i mid new h l w e k =
      record {
        holds =
            stored_then at (m * i) (flat_map g (table i f)) (g (f i)) old mid new (length_flat_map_table g m h i f) l w.holds e
            ∙ ap (λ (x : List ℕ). stored at x old) (sym (flat_map_suc g f i) ∙ ap (λ (k : ℕ). flat_map g (table k f)) (sym (add-one i)));
        kept = k ∙ w.kept;
      }

  pub pieces_all : (i n : ℕ) (out : List ℕ) → Pieces at i g f old out → i ≡ n → out ≡ stored at (flat_map g (table n f)) old
  pieces_all i n out w e = w.holds ∙ ap (λ (k : ℕ). stored at (flat_map g (table k f)) old) e
