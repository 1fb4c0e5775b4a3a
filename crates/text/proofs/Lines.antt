-- Laws of `line`: a line's parts and their lengths, and loops that put texts one after another. Assumes nothing.
use mathlib.Core.Path.{◌≡◌, refl, sym, ap, ◌∙◌}
use mathlib.Core.List.{List, [], ◌∷◌, ◌++◌, append_assoc, append-nil, map, flat_map, flatten}
use Prim.Native.Nat.{ℕ, zero, suc, ◌+◌, ◌≤◌, ◌<◌}
use native.Mathlib.Numerals.{add-one}
use native.Mathlib.Omega.{arith}
use native.Mathlib.Decide.{dec_lt}
use lib.ListN.{length, get_or, set, length-append}
use Rattle.laws.specs.Below.{table}
use Rattle.laws.proofs.Below.{map-table, table-get_or}
use Rattle.text.specs.Text.{newline, decimal, following, line, number_line}
use Rattle.text.specs.Put.{Put}
use Rattle.text.proofs.Puts.{put_none, put_byte, put_then, put_as, length_put}

-- ## A word and two more

pub line_two : (w a b : List ℕ) → w ++ (following a ++ (following b ++ (newline ∷ []))) ≡ line w (a ∷ b ∷ [])
unfolding line flat_map
line_two w a b =
    ap (λ (t : List ℕ). w ++ t)
    (ap (λ (t : List ℕ). following a ++ (t ++ (newline ∷ []))) (sym (append-nil (following b)))
    ∙ sym (append_assoc (following a) (following b ++ []) (newline ∷ [])))

pub length_two : (w a b : List ℕ) → length (line w (a ∷ b ∷ [])) ≡ length w + (length a + 1) + (length b + 1) + 1
length_two w a b = ap length (sym (line_two w a b)) ∙ simp length-append (omega arith)

-- ## Texts one after another

flatten_append : (k l : List (List ℕ)) → flatten (k ++ l) ≡ flatten k ++ flatten l
unfolding flatten
flatten_append [] l = refl
flatten_append (x ∷ k) l = ap (λ (r : List ℕ). x ++ r) (flatten_append k l) ∙ sym (append_assoc x (flatten k) (flatten l))

module _ (f : ℕ → List ℕ) where
  flatten_suc : (i : ℕ) → flatten (table (suc i) f) ≡ flatten (table i f) ++ f i
  unfolding table flatten
  flatten_suc i = flatten_append (table i f) (f i ∷ []) ∙ ap (λ (t : List ℕ). flatten (table i f) ++ t) (append-nil (f i))

  -- one text more
  pub texts_more : (i : ℕ) → flatten (table (i + 1) f) ≡ flatten (table i f) ++ f i
  texts_more i = ap (λ (k : ℕ). flatten (table k f)) (add-one i) ∙ flatten_suc i

  pub length_none : length (flatten (table 0 f)) ≡ 0
  unfolding table flatten
  length_none = refl

  pub length_texts : (i : ℕ) → length (flatten (table (i + 1) f)) ≡ length (flatten (table i f)) + length (f i)
  length_texts i = ap length (texts_more i) ∙ length-append (flatten (table i f)) (f i)

  pub texts_le : (i n : ℕ) → i ≤ n → length (flatten (table i f)) ≤ length (flatten (table n f))
  texts_le i zero l =
      let e : i ≡ 0 = omega arith in
      rw e (omega arith)
  texts_le i (suc n) l = go (texts_le i n) (dec_lt n i)
    where
      go : (i ≤ n → length (flatten (table i f)) ≤ length (flatten (table n f))) → Dec (n < i)
          → length (flatten (table i f)) ≤ length (flatten (table (suc n) f))
      go r (yes k) =
          let e : i ≡ suc n = omega arith in
          rw e (omega arith)
      go r (no k) = omega (arith, r (omega arith), ap length (flatten_suc n) ∙ length-append (flatten (table n f)) (f n))

-- a loop that puts texts one after another, from `at` on: none, one more, all n
module _ (f : ℕ → List ℕ) (at : ℕ) (old : List ℕ) where
  pub texts_none : Put at (flatten (table 0 f)) old old at
  unfolding table flatten
  texts_none = put_none old refl

  module _ (i n : ℕ) (below : i < n) (fits : at + length (flatten (table n f)) ≤ length old) where
    next_fit : at + length (flatten (table i f)) + length (f i) ≤ length old
    next_fit = omega (arith, length_texts f i, texts_le f (i + 1) n (omega arith))

    pub next_fits : {end : ℕ} {mid : List ℕ} → length mid ≡ length old → Put at (flatten (table i f)) old mid end → end + length (f i) ≤ length mid
    next_fits k p = omega (arith, next_fit, p.ends)

    pub put_next : {end last : ℕ} {mid new : List ℕ} → Put at (flatten (table i f)) old mid end → Put end (f i) mid new last
        → Put at (flatten (table (i + 1) f)) old new last
    put_next p q = put_as (sym (texts_more f i)) (put_then (omega (arith, next_fit)) p q)

  pub texts_all : (i n : ℕ) → i ≡ n → {end : ℕ} {new : List ℕ} → Put at (flatten (table i f)) old new end → Put at (flatten (table n f)) old new end
  texts_all i n e p = put_as (ap (λ (k : ℕ). flatten (table k f)) e) p

-- ## A word and numbers

-- the i-th of some numbers, after a space
abbrev pub following_at : List ℕ → ℕ → List ℕ
following_at numbers i = following (decimal (get_or numbers i 0))

-- numbers in decimal, each after a space
abbrev pub after : List ℕ → List ℕ
after numbers = flatten (table (length numbers) (following_at numbers))

flat_map_map : (l : List ℕ) → flat_map following (map decimal l) ≡ flatten (map (λ x. following (decimal x)) l)
unfolding flat_map flatten
flat_map_map [] = refl
flat_map_map (x ∷ l) = ap (λ (t : List ℕ). following (decimal x) ++ t) (flat_map_map l)

line_after : (word numbers : List ℕ) → word ++ (after numbers ++ (newline ∷ [])) ≡ number_line word numbers
unfolding line
line_after word numbers =
    ap (λ (t : List ℕ). word ++ (t ++ (newline ∷ [])))
    (ap flatten (sym (map-table (λ x. following (decimal x)) (length numbers) (λ i. get_or numbers i 0)))
    ∙ ap (λ (l : List ℕ). flatten (map (λ x. following (decimal x)) l)) (table-get_or 0 numbers (length numbers) (λ i. get_or numbers i 0) refl (λ i l. refl))
    ∙ sym (flat_map_map numbers))

pub length-line : (word numbers : List ℕ) → length (number_line word numbers) ≡ length word + length (after numbers) + 1
length-line word numbers = ap length (sym (line_after word numbers)) ∙ simp length-append (omega arith)

-- the numbers and the newline fit after the word
pub numbers_fit : (word numbers : List ℕ) {at one : ℕ} {old a : List ℕ} → at + length (number_line word numbers) ≤ length old → Put at word old a one
    → one + length (after numbers) < length a
numbers_fit word numbers {at} {one} {old} {a} fits p =
    let k = length-line word numbers in
    let h : at + length word ≤ length old = omega arith in
    omega (arith, p.ends, length_put h p)

-- the word, the numbers and the newline
pub put_line : (word numbers : List ℕ) {at one two : ℕ} {old a b : List ℕ} → at + length (number_line word numbers) ≤ length old → Put at word old a one
    → Put one (after numbers) a b two → Put at (number_line word numbers) old (set b two newline) (two + 1)
put_line word numbers {at} {one} {two} {old} {a} {b} fits p q =
    let k = length-line word numbers in
    let h : at + length word ≤ length old = omega arith in
    let j : one + length (after numbers) ≤ length a = omega (arith, numbers_fit word numbers fits p) in
    put_as (line_after word numbers)
    (put_then h p (put_then j q (put_byte newline b refl (omega (arith, p.ends, q.ends, length_put h p, length_put j q)))))
