-- Laws of numbers in decimal. Assumes nothing.
use mathlib.Core.Path.{◌≡◌, sym, ap, ◌∙◌}
use mathlib.Core.List.{List, [], ◌∷◌, ◌++◌}
use Prim.Native.Nat.{ℕ, zero, suc, ◌+◌, ◌/◌, ◌%◌, ◌^◌, ◌≤◌, ◌<◌}
use native.Mathlib.Nat.{div-lt_iff_lt-mul, pow-suc}
use native.Mathlib.Omega.{arith}
use native.Mathlib.Decide.{dec_lt}
use borrow.Author.Tests.{lt-ltb, le-ltb}
use lib.Dec.{lit<}
use lib.ListN.{length, length-append}
use Rattle.text.specs.Text.{digit, digits_within, decimal}

within_small : (k x : ℕ) → x < 10 → digits_within (suc k) x ≡ digit x ∷ []
unfolding digits_within
within_small k x l = rw (lt-ltb x 10 l)

within_large : (k x : ℕ) → 10 ≤ x → digits_within (suc k) x ≡ digits_within k (x / 10) ++ (digit (x % 10) ∷ [])
unfolding digits_within
within_large k x l = rw (le-ltb x 10 l)

-- what is above the digits of x says nothing
within_same : (k m x : ℕ) → x < k → x < m → digits_within k x ≡ digits_within m x
within_same zero m x a b = absurd (omega arith)
within_same (suc k) zero x a b = absurd (omega arith)
within_same (suc k) (suc m) x a b = go (λ h. within_same k m (x / 10) (omega arith) (omega arith)) (dec_lt x 10)
  where
    go : (10 ≤ x → digits_within k (x / 10) ≡ digits_within m (x / 10)) → Dec (x < 10) → digits_within (suc k) x ≡ digits_within (suc m) x
    go r (yes l) = within_small k x l ∙ sym (within_small m x l)
    go r (no l) =
        let h : 10 ≤ x = omega arith in
        within_large k x h ∙ ap (λ (s : List ℕ). s ++ (digit (x % 10) ∷ [])) (r h) ∙ sym (within_large m x h)

-- a number of one digit
pub decimal_small : (x : ℕ) → x < 10 → decimal x ≡ digit x ∷ []
unfolding decimal
decimal_small x l = within_small x x l

-- the higher digits, and the last one
pub decimal_large : (x : ℕ) → 10 ≤ x → decimal x ≡ decimal (x / 10) ++ (digit (x % 10) ∷ [])
unfolding decimal
decimal_large x l = within_large x x l ∙ ap (λ (s : List ℕ). s ++ (digit (x % 10) ∷ [])) (within_same x (suc (x / 10)) (x / 10) (omega arith) (omega arith))

pub length_small : (x : ℕ) → x < 10 → length (decimal x) ≡ 1
length_small x l = ap length (decimal_small x l)

pub length_large : (x : ℕ) → 10 ≤ x → length (decimal x) ≡ length (decimal (x / 10)) + 1
length_large x l = ap length (decimal_large x l) ∙ length-append (decimal (x / 10)) (digit (x % 10) ∷ [])

-- no more digits than 10 ^ k has zeros
pub length-decimal : (k x : ℕ) → x < 10 ^ suc k → length (decimal x) ≤ suc k
length-decimal zero x h = omega (arith, length_small x h)
length-decimal (suc k) x h = go (λ l. length-decimal k (x / 10) ((div-lt_iff_lt-mul (lit< tt)).1 (rw pow-suc at h))) (dec_lt x 10)
  where
    go : (10 ≤ x → length (decimal (x / 10)) ≤ suc k) → Dec (x < 10) → length (decimal x) ≤ suc (suc k)
    go r (yes l) = omega (arith, length_small x l)
    go r (no l) =
        let b : 10 ≤ x = omega arith in
        omega (arith, length_large x b, r b)

-- a number of 64 bits has at most 20 digits, one of 32 bits at most 10
pub length_wide : (x : ℕ) → x < 18446744073709551616 → length (decimal x) ≤ 20
length_wide x l = length-decimal 19 x (omega arith)

pub length_id : (x : ℕ) → x < 4294967296 → length (decimal x) ≤ 10
length_id x l = length-decimal 9 x (omega arith)
