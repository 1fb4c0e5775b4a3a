-- What is printed of a number is digits that stand for it, with no zero in front, and no other text is that. Assumes nothing.
use mathlib.Core.Path.{◌≡◌, refl, sym, ap, ap₂, ◌∙◌, subst}
use mathlib.Core.List.{List, [], ◌∷◌, ◌++◌}
use Prim.Native.Nat.{ℕ, zero, suc, ◌+◌, ◌-◌, ◌*◌, ◌/◌, ◌%◌, ◌≤◌, ◌<◌}
use native.Mathlib.Nat.{div-add-mod'}
use native.Mathlib.Numerals.{add-one}
use native.Mathlib.Omega.{arith}
use native.Mathlib.Decide.{dec_lt}
use lib.ListN.{length, get_or, take, length-append, get_or-append}
use lib.Seq.{get_or_at, get_or-take, take-suc, take-length, length-take-le}
use Rattle.laws.proofs.Below.{below_suc}
use Rattle.text.specs.Text.{digit, decimal}
use Rattle.text.specs.Promises.{read_on, Decimal, PrintsDecimal}
use Rattle.text.proofs.Decimal.{decimal_small, decimal_large}

-- ## It is one

read_on_last : (higher : ℕ) (text : List ℕ) (c : ℕ) → read_on higher (text ++ (c ∷ [])) ≡ read_on higher text * 10 + (c - 48)
unfolding read_on
read_on_last higher [] c = refl
read_on_last higher (b ∷ text) c = read_on_last (higher * 10 + (b - 48)) text c

-- a text that stands for no 0 does not begin with one
not_zero : (y : ℕ) (text : List ℕ) → 0 < y → Decimal y text → 48 < get_or text 0 0
unfolding read_on
not_zero y [] l w = absurd (omega (arith, w.some))
not_zero y (c ∷ []) l w = omega (arith, w.number)
not_zero y (c ∷ d ∷ text) l w = w.front (omega arith)

decimal-one : (x : ℕ) → x < 10 → Decimal x (digit x ∷ [])
unfolding read_on
decimal-one x l =
    record {
      some = omega arith;
      digits = below_suc {P = λ i. (48 ≤ get_or (digit x ∷ []) i 0) × (get_or (digit x ∷ []) i 0 ≤ 57)} 0 (λ i h. absurd (omega arith)) (omega arith, omega arith);
      number = omega arith;
      front = λ h. absurd (omega arith);
    }

-- one digit more
decimal_more : (y d : ℕ) (text : List ℕ) → 0 < y → d < 10 → Decimal y text → Decimal (y * 10 + d) (text ++ (digit d ∷ []))
decimal_more y d text l h w =
    let k : length (text ++ (digit d ∷ [])) ≡ suc (length text) = simp length-append (omega arith) in
    let Digit : ℕ → Type 0 = λ c. (48 ≤ c) × (c ≤ 57) in
    record {
      some = omega arith;
      digits =
          λ i m.
          below_suc {P = λ i. Digit (get_or (text ++ (digit d ∷ [])) i 0)} (length text)
          (λ j n. rw (get_or-append text (digit d ∷ []) 0 j n) (w.digits j n))
          (rw (get_or_at text (digit d) [] 0 (length text) refl) (omega arith, omega arith)) i (rw k at m);
      number = read_on_last 0 text (digit d) ∙ omega (arith, w.number);
      front = λ _. rw (get_or-append text (digit d ∷ []) 0 0 w.some) (not_zero y text l w);
    }

decimal_within : (k x : ℕ) → x < k → Decimal x (decimal x)
decimal_within zero x l = absurd (omega arith)
decimal_within (suc k) x l = go (λ h. decimal_within k (x / 10) (omega arith)) (dec_lt x 10)
  where
    go : (10 ≤ x → Decimal (x / 10) (decimal (x / 10))) → Dec (x < 10) → Decimal x (decimal x)
    go r (yes s) = rw (decimal_small x s) (decimal-one x s)
    go r (no s) =
        let h : 10 ≤ x = omega arith in
        let e : x / 10 * 10 + x % 10 ≡ x = div-add-mod' x 10 in
        let w = decimal_more (x / 10) (x % 10) (decimal (x / 10)) (omega arith) (omega arith) (r h) in
        rw (decimal_large x h) (subst (λ (y : ℕ). Decimal y (decimal (x / 10) ++ (digit (x % 10) ∷ []))) e w)

-- ## There is no other

read_on_le : (higher : ℕ) (text : List ℕ) → higher ≤ read_on higher text
unfolding read_on
read_on_le higher [] = omega arith
read_on_le higher (c ∷ text) = omega (arith, read_on_le (higher * 10 + (c - 48)) text)

read_on_some : (text : List ℕ) → 0 < read_on 0 text → 0 < length text
unfolding read_on
read_on_some [] l = absurd (omega arith)
read_on_some (c ∷ text) l = omega arith

only_one : (x : ℕ) (text : List ℕ) → x < 10 → Decimal x text → text ≡ digit x ∷ []
unfolding read_on
only_one x [] l w = absurd (omega (arith, w.some))
only_one x (c ∷ []) l w =
    let e : c ≡ digit x = omega (arith, w.number, (w.digits 0 (omega arith)).0) in
    ap (λ (d : ℕ). d ∷ []) e
only_one x (c ∷ d ∷ text) l w =
    absurd (omega (arith, w.number, w.front (omega arith), read_on_le ((0 * 10 + (c - 48)) * 10 + (d - 48)) text))

-- a text without its last digit
module _ (x : ℕ) (text : List ℕ) (w : Decimal x text) (m : ℕ) (k : length text ≡ m + 1) where
  cut : text ≡ take m text ++ (get_or text m 0 ∷ [])
  cut = sym (take-length text) ∙ ap (λ (j : ℕ). take j text) (k ∙ add-one m) ∙ take-suc text m 0 (omega arith)

  cut_number : read_on 0 (take m text) * 10 + (get_or text m 0 - 48) ≡ x
  cut_number = sym (read_on_last 0 (take m text) (get_or text m 0)) ∙ ap (read_on 0) (sym cut) ∙ w.number

  cut_decimal : 10 ≤ x → Decimal (x / 10) (take m text)
  cut_decimal l =
      let d = w.digits m (omega arith) in
      let e : read_on 0 (take m text) ≡ x / 10 = omega (arith, cut_number, d.0, d.1) in
      let n : length (take m text) ≡ m = length-take-le m text (omega arith) in
      let s : 0 < length (take m text) = read_on_some (take m text) (omega arith) in
      record {
        some = s;
        digits = λ i h. rw (get_or-take m text i 0 (omega arith)) (w.digits i (omega arith));
        number = e;
        front = λ h. rw (get_or-take m text 0 0 (omega arith)) (w.front (omega arith));
      }

  cut_last : 10 ≤ x → get_or text m 0 ≡ digit (x % 10)
  cut_last l =
      let d = w.digits m (omega arith) in
      omega (arith, cut_number, d.0, d.1)

only_within : (k x : ℕ) (text : List ℕ) → x < k → Decimal x text → text ≡ decimal x
only_within zero x text l w = absurd (omega arith)
only_within (suc k) x text l w = go (λ s h. only_within k (x / 10) s (omega arith)) (dec_lt x 10)
  where
    go : ((s : List ℕ) → 10 ≤ x → Decimal (x / 10) s → s ≡ decimal (x / 10)) → Dec (x < 10) → text ≡ decimal x
    go r (yes s) = only_one x text s w ∙ sym (decimal_small x s)
    go r (no s) =
        let h : 10 ≤ x = omega arith in
        let m : ℕ = length text - 1 in
        let n : length text ≡ m + 1 = omega (arith, w.some) in
        cut x text w m n
        ∙ ap₂ (λ (t : List ℕ) (c : ℕ). t ++ (c ∷ [])) (r (take m text) h (cut_decimal x text w m n h)) (cut_last x text w m n h)
        ∙ sym (decimal_large x h)

pub prints_decimal : (x : ℕ) → PrintsDecimal x
prints_decimal x =
    record { is = decimal_within (suc x) x (omega arith); only = λ text w. only_within (suc x) x text (omega arith) w }
