-- Entries moved down in place: a table and a row without one entry, and a turn of the loop over the rows that stay. Assumes nothing.
use mathlib.Core.Path.{◌≡◌, refl, sym, ap, ap₂, ◌∙◌}
use mathlib.Core.List.{List, ◌++◌, append_assoc, flat_map}
use Prim.Native.Nat.{ℕ, zero, suc, ◌+◌, ◌-◌, ◌*◌, ◌≤◌, ◌<◌}
use native.Mathlib.Nat.{zero-add, mul-le-mul, suc-mul, zero-mul}
use native.Mathlib.Numerals.{add-one}
use native.Mathlib.Omega.{arith}
use mir.Syntax.{w64}
use mir.Val.{Fits}
use lib.ListN.{get_or, set, length, take, drop, length-append, length-take, length-drop}
use lib.Seq.{paste, get_or-drop, drop-paste, take-take, drop-drop, drop-append-add}
use Rattle.std.specs.List.{remove, copy_within}
use Rattle.std.proofs.lemmas.List.{drop-take}
use Rattle.std.proofs.lemmas.List.Edits.{length-remove, paste_more}
use Rattle.laws.specs.Below.{table}
use Rattle.laws.specs.Lent.{filled, stored}
use Rattle.laws.proofs.Lists.{flat_map_suc}
use Rattle.laws.proofs.Lent.{length-stored, stored_then, stored-filled}
use Rattle.graph.proofs.Rows.{row_fits}
use Rattle.live.specs.Calls.{up}
use Rattle.live.proofs.Tables.{up_least, up-below}
use Rattle.shifting.specs.Preconditions.{Later, Entry, Square}
use Rattle.shifting.specs.Without.{one_out, row_without}

-- ## A loop that moves entries to an earlier place

-- it reads past what it has stored
pub move_more : {A : Type 0} (to from k : ℕ) (x : A) (old t : List A) → to ≤ from → from + k < length old → t ≡ paste old to (drop from old) k
    → x ≡ get_or t (from + k) x → set t (to + k) x ≡ paste old to (drop from old) (k + 1)
move_more {A} to from k x old t l h e f =
    let s = drop from old in
    let n : k < length s = rw length-drop (omega arith) in
    let i : from + k ≡ to + k + (from - to) = omega arith in
    let kept : get_or (paste old to s k) (from + k) x ≡ get_or old (from + k) x =
    ap (λ (j : ℕ). get_or (paste old to s k) j x) i
    ∙ sym (get_or-drop (to + k) (paste old to s k) (from - to) x)
    ∙ ap (λ (y : List A). get_or y (from - to) x) (drop-paste old to s k (omega arith) (omega arith))
    ∙ get_or-drop (to + k) old (from - to) x
    ∙ ap (λ (j : ℕ). get_or old j x) (sym i) in
    let g : x ≡ get_or s k x = f ∙ ap (λ (y : List A). get_or y (from + k) x) e ∙ kept ∙ sym (get_or-drop from old k x) in
    ap₂ (λ (y : List A) (z : A). set y (to + k) z) e g ∙ paste_more old to s k x (omega arith) n

-- ## Without one entry

module _ {A : Type 0} where
  -- what stands before the gap, and then what stood after it
  parts : (a n : ℕ) (t : List A) → a < n → remove (take n t) a ≡ take a t ++ take (n - (a + 1)) (drop (a + 1) t)
  parts a n t l =
      let e : a + 1 + (n - (a + 1)) ≡ n = omega arith in
      ap₂ (λ (x y : List A). x ++ y) (take-take a n t (omega arith))
      (ap (λ (k : ℕ). drop k (take n t)) (sym (add-one a))
      ∙ ap (λ (k : ℕ). drop (a + 1) (take k t)) (sym e)
      ∙ drop-take (a + 1) (n - (a + 1)) t)

  pub length_out : (a n : ℕ) (t : List A) → a < n → n ≤ length t → length (remove (take n t) a) ≡ n - 1
  length_out a n t l h =
      let e : length (take n t) ≡ n = rw length-take (omega arith) in
      omega (arith, length-remove (take n t) a (rw e l))

  pub entry_out : (a n : ℕ) (old new : List A) → Entry a n old → new ≡ copy_within old (a + 1) n a → new ≡ one_out a n old
  unfolding one_out filled
  entry_out a n old new p e =
      let k : a + (n - (a + 1)) ≡ n - 1 = omega (arith, p.inside) in
      e
      ∙ ap₂ (λ (x : List A) (j : ℕ). x ++ drop j old) (sym (parts a n old p.inside)) (k ∙ sym (length_out a n old p.inside p.fits))

  -- ## A row without one entry

  -- what lies past what is stored
  drop_stored : (at : ℕ) (l old : List A) (k : ℕ) → at + length l ≤ length old → at + length l ≤ k → drop k (stored at l old) ≡ drop k old
  unfolding stored
  drop_stored at l old k h i =
      let xs : List A = take at old ++ l in
      let j = k - (at + length l) in
      let g : length xs ≡ at + length l = simp (length-append, length-take) (omega arith) in
      let e : k ≡ length xs + j = omega arith in
      let f : at + length l + j ≡ k = omega arith in
      ap₂ (λ (n : ℕ) (x : List A). drop n x) e (sym (append_assoc (take at old) l (drop (at + length l) old)))
      ∙ drop-append-add xs (drop (at + length l) old) j
      ∙ drop-drop j (at + length l) old
      ∙ ap (λ (n : ℕ). drop n old) f

  -- entries from i up to j are stored at another place
  copied : (i j k to : ℕ) (t : List A) → i + k ≡ j → j ≤ length t → copy_within t i j to ≡ stored to (take k (drop i t)) t
  unfolding stored
  copied i j k to t e h =
      let d : j - i ≡ k = omega arith in
      let n : length (take k (drop i t)) ≡ k = simp (length-take, length-drop) (omega arith) in
      ap (λ (m : ℕ). (take to t ++ take m (drop i t)) ++ drop (to + m) t) d
      ∙ append_assoc (take to t) (take k (drop i t)) (drop (to + k) t)
      ∙ ap (λ (m : ℕ). take to t ++ (take k (drop i t) ++ drop (to + m) t)) (sym n)

  -- it is moved in two parts, before the gap and after it
  pub row_out : (to from a m : ℕ) (old mid new : List A) → Later to from (m + 1) old → a ≤ m → mid ≡ copy_within old from (from + a) to
      → new ≡ copy_within mid (from + a + 1) (from + a + 1 + (m - a)) (to + a) → new ≡ stored to (remove (take (m + 1) (drop from old)) a) old
  row_out to from a m old mid new p l e f =
      let before = take a (drop from old) in
      let h : to + a ≤ length old = omega (arith, p.later, p.inside) in
      let n : length before ≡ a = simp (length-take, length-drop) (omega (arith, p.inside)) in
      let w : mid ≡ stored to before old = e ∙ copied from (from + a) a to old refl (omega (arith, p.inside)) in
      let long : length mid ≡ length old = ap length w ∙ length-stored to before old (omega arith) in
      let kept : drop (from + a + 1) mid ≡ drop (a + 1) (drop from old) =
      ap (drop (from + a + 1)) w
      ∙ drop_stored to before old (from + a + 1) (omega arith) (omega (arith, p.later))
      ∙ ap (λ (k : ℕ). drop k old) (omega arith)
      ∙ sym (drop-drop (a + 1) from old) in
      stored_then to a before (take (m - a) (drop (from + a + 1) mid)) old mid new n h w
      (f ∙ copied (from + a + 1) (from + a + 1 + (m - a)) (m - a) (to + a) mid refl (omega (arith, p.inside)))
      ∙ ap (λ (x : List A). stored to (before ++ take (m - a) x) old) kept
      ∙ ap (λ (x : List A). stored to x old) (ap (λ (k : ℕ). before ++ take k (drop (a + 1) (drop from old))) (omega arith) ∙ sym (parts a (m + 1) (drop from old) (omega arith)))

-- ## Rows that stay

-- a product of numbers up to 200
pub few_fit : {i n : ℕ} → i ≤ 200 → n ≤ 200 → Fits w64 (i * n)
few_fit {i} {n} l h =
    let e : i * n ≤ 40000 = mul-le-mul l h in
    omega arith

-- r, where row i of those that stay stood, is not before it, and inside
module _ (a i : ℕ) {r : ℕ} (e : r ≡ up a i) where
  pub row_later : i ≤ r
  row_later = rw e (up_least a i)

  pub row_inside : {n : ℕ} → i < n - 1 → r < n
  row_inside {n} l = rw e (up-below a n i l)

module _ {A : Type 0} (a n : ℕ) (old : List A) where
  -- the first i of them
  abbrev pub moved : ℕ → List A
  moved i = flat_map (row_without a n old) (table i (up a))

  module _ (p : Square a n old) where
    pub row_there : (r : ℕ) → r < n → n ≤ length (drop (r * n) old)
    row_there r l = rw length-drop (omega (arith, row_fits l, p.fits))

    length_moved : (i : ℕ) → i ≤ n - 1 → length (moved i) ≡ i * (n - 1)
    unfolding table flat_map row_without
    length_moved zero l = sym (zero-mul (n - 1))
    length_moved (suc i) l =
        let r = up a i in
        ap length (flat_map_suc (row_without a n old) (up a) i)
        ∙ length-append (moved i) (row_without a n old r)
        ∙ ap₂ (λ (x y : ℕ). x + y) (length_moved i (omega arith)) (length_out a n (drop (r * n) old) p.inside (row_there r (up-below a n i (omega arith))))
        ∙ sym (suc-mul i (n - 1))

    -- the next one, from where it stood: nothing is stored there yet
    pub row_more : (i r : ℕ) (t new : List A) → i < n - 1 → r ≡ up a i → t ≡ filled (moved i) old
        → new ≡ stored (i * (n - 1)) (remove (take (n - 1 + 1) (drop (r * n) t)) a) t → new ≡ filled (moved (i + 1)) old
    unfolding row_without
    row_more i r t new l e w f =
        let m = n - 1 in
        let k : length (moved i) ≡ i * m = length_moved i (omega arith) in
        let b : i * m ≤ r * n = mul-le-mul (row_later a i e) (omega arith) in
        let s : i * m ≤ n * n = mul-le-mul (omega arith) (omega arith) in
        let u : n - 1 + 1 ≡ n = omega (arith, p.inside) in
        let v : t ≡ stored 0 (moved i) old = w ∙ sym (stored-filled (moved i) old) in
        let kept : drop (r * n) t ≡ drop (up a i * n) old =
        ap (drop (r * n)) v ∙ drop_stored 0 (moved i) old (r * n) (omega (arith, p.fits)) (omega arith) ∙ ap (λ (q : ℕ). drop (q * n) old) e in
        stored_then 0 (i * m) (moved i) (row_without a n old (up a i)) old t new k (omega (arith, p.fits)) v
        (f
        ∙ ap₂ (λ (x : ℕ) (y : List A). stored (i * m) (remove (take x y) a) t) u kept
        ∙ ap (λ (x : ℕ). stored x (row_without a n old (up a i)) t) (sym (zero-add (i * m))))
        ∙ stored-filled _ old
        ∙ ap (λ (x : List A). filled x old)
        (sym (flat_map_suc (row_without a n old) (up a) i) ∙ ap moved (sym (add-one i)))
