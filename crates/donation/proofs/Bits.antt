-- Bits of words: what `v & w`, `!v` and setting a bit give, entry by entry. Assumes nothing.
use mathlib.Core.Path.{◌≡◌, refl, sym, ap, ap₂, ◌∙◌}
use mathlib.Core.Bool.{Bool, true, false, not, ◌&&◌}
use Prim.Native.Nat.{ℕ, zero, suc, ◌+◌, ◌-◌, ◌*◌, ◌/◌, ◌%◌, ◌^◌, ◌<◌}
use native.Mathlib.Nat.{div-one, div-div-eq-div-mul, div-add-mod', mod-lt, pow-suc, pow-succ', add_assoc, zero-lt-suc}
use native.Mathlib.Omega.{arith}
use borrow.Author.Tests.{eq-eqb, ne_eqb}
use lib.Arith.{lt-one}
use lib.Bits.{bit_and, bit_or, and_shr, and_mod, and_lt, or_shr, or_mod}
use lib.Count.{ones, ones_step}
use lib.Dec.{eqb, eqb-zero-suc, eqb-suc-zero, eqb-suc-suc}
use Rattle.laws.specs.Below.{either, any_below, one, count_below}
use Rattle.laws.proofs.Below.{either_true, any_cong, count_cong}
use Rattle.donation.specs.Compatibility.{entries, has, share_bit}

-- ## The first of them, and the others

count_first : (n : ℕ) (p : ℕ → Bool) → count_below (suc n) p ≡ one (p 0) + count_below n (λ k. p (suc k))
unfolding count_below
count_first zero p = omega arith
count_first (suc n) p = ap (λ (x : ℕ). x + one (p (suc n))) (count_first n p) ∙ add_assoc _ _ _

either_false : (t : Bool) → either false t ≡ either t false
unfolding either
either_false true = refl
either_false false = refl

either_assoc : (s t u : Bool) → either (either s t) u ≡ either s (either t u)
unfolding either
either_assoc true t u = refl
either_assoc false t u = refl

any_first : (n : ℕ) (p : ℕ → Bool) → any_below (suc n) p ≡ either (p 0) (any_below n (λ k. p (suc k)))
unfolding any_below
any_first zero p = either_false (p 0)
any_first (suc n) p = ap (λ (t : Bool). either t (p (suc n))) (any_first n p) ∙ either_assoc _ _ _

-- ## has

low : (x : ℕ) → x % 2 < 2
low x = mod-lt x (zero-lt-suc 1)

half : (n x : ℕ) → x < 2 ^ suc n → x / 2 < 2 ^ n
half n x h = omega (arith, pow-suc 2 n)

has_first : (x : ℕ) → has x 0 ≡ eqb (x % 2) 1
unfolding has
has_first x = ap (λ (y : ℕ). eqb (y % 2) 1) (div-one x)

has_rest : (x k : ℕ) → has x (suc k) ≡ has (x / 2) k
unfolding has
has_rest x k = ap (λ (y : ℕ). eqb (y % 2) 1) (ap (λ (m : ℕ). x / m) (pow-succ' 2 k) ∙ sym (div-div-eq-div-mul x 2 (2 ^ k)))

-- ## Bits of `v & w`, and of `!v` in a word of n bits

and_digit : (u v : ℕ) → u < 2 → v < 2 → eqb (bit_and u v) 1 ≡ (eqb u 1 && eqb v 1)
and_digit zero zero hu hv = refl
and_digit zero (suc zero) hu hv = refl
and_digit zero (suc (suc v)) hu hv = absurd (omega arith)
and_digit (suc zero) zero hu hv = refl
and_digit (suc zero) (suc zero) hu hv = refl
and_digit (suc zero) (suc (suc v)) hu hv = absurd (omega arith)
and_digit (suc (suc u)) v hu hv = absurd (omega arith)

has_and : (v w k : ℕ) → has (bit_and v w) k ≡ (has v k && has w k)
unfolding has
has_and v w k =
    ap (λ (x : ℕ). eqb x 1) (ap (λ (x : ℕ). x % 2) (and_shr v w k) ∙ and_mod (v / 2 ^ k) (w / 2 ^ k) 1)
    ∙ and_digit (v / 2 ^ k % 2) (w / 2 ^ k % 2) (low (v / 2 ^ k)) (low (w / 2 ^ k))

not_digit : (u v : ℕ) → u + v ≡ 1 → eqb u 1 ≡ not (eqb v 1)
not_digit zero zero e = absurd (omega arith)
not_digit zero (suc zero) e = refl
not_digit zero (suc (suc v)) e = absurd (omega arith)
not_digit (suc zero) zero e = refl
not_digit (suc zero) (suc v) e = absurd (omega arith)
not_digit (suc (suc u)) v e = absurd (omega arith)

has_not : (n v k : ℕ) → v < 2 ^ n → k < n → has (2 ^ n - 1 - v) k ≡ not (has v k)
has_not zero v k h l = absurd (omega arith)
has_not (suc n) v zero h l =
    let other : (2 ^ suc n - 1 - v) % 2 + v % 2 ≡ 1 = omega (arith, pow-suc 2 n) in
    has_first _ ∙ not_digit _ _ other ∙ ap not (sym (has_first v))
has_not (suc n) v (suc k) h l =
    let halved : (2 ^ suc n - 1 - v) / 2 ≡ 2 ^ n - 1 - v / 2 = omega (arith, pow-suc 2 n) in
    has_rest _ k
    ∙ ap (λ (x : ℕ). has x k) halved
    ∙ has_not n (v / 2) k (half n v h) (omega arith)
    ∙ ap not (sym (has_rest v k))

-- ## A word by its bits

digit : (u : ℕ) → u < 2 → u ≡ one (eqb u 1)
unfolding one
digit zero h = refl
digit (suc zero) h = refl
digit (suc (suc u)) h = absurd (omega arith)

-- the number of its bits
ones_count : (n x : ℕ) → x < 2 ^ n → ones x ≡ count_below n (has x)
unfolding count_below ones
ones_count zero x h = ap ones (lt-one h)
ones_count (suc n) x h =
    ones_step x
    ∙ ap₂ (λ (a b : ℕ). a + b) (digit (x % 2) (low x) ∙ ap one (sym (has_first x)))
    (ones_count n (x / 2) (half n x h) ∙ count_cong n _ _ (λ k l. sym (has_rest x k)))
    ∙ sym (count_first n (has x))

-- has it any?
some_digit : (q u : ℕ) → u < 2 → not (eqb (q * 2 + u) 0) ≡ either (eqb u 1) (not (eqb q 0))
unfolding either
some_digit zero zero h = refl
some_digit (suc q) zero h = ap not (ne_eqb (suc q * 2 + 0) 0 (λ e. omega arith) ∙ sym (ne_eqb (suc q) 0 (λ e. omega arith)))
some_digit q (suc zero) h = ap not (ne_eqb (q * 2 + 1) 0 (λ e. omega arith))
some_digit q (suc (suc u)) h = absurd (omega arith)

some_any : (n x : ℕ) → x < 2 ^ n → not (eqb x 0) ≡ any_below n (has x)
unfolding any_below
some_any zero x h = ap (λ (y : ℕ). not (eqb y 0)) (lt-one h)
some_any (suc n) x h =
    ap (λ (y : ℕ). not (eqb y 0)) (sym (div-add-mod' x 2))
    ∙ some_digit (x / 2) (x % 2) (low x)
    ∙ ap₂ either (sym (has_first x)) (some_any n (x / 2) (half n x h) ∙ any_cong n _ _ (λ k l. sym (has_rest x k)))
    ∙ sym (any_first n (has x))

-- ## What the code's operations give

pub and_shares : (v w : ℕ) → v < 2 ^ entries → w < 2 ^ entries → not (eqb (bit_and v w) 0) ≡ share_bit v w
unfolding share_bit
and_shares v w hv hw = some_any entries (bit_and v w) (and_lt entries v w hv hw) ∙ any_cong entries _ _ (λ k l. has_and v w k)

pub and_not_count : (v w : ℕ) → v < 2 ^ entries → w < 2 ^ entries
    → ones (bit_and v (2 ^ entries - 1 - w)) ≡ count_below entries (λ k. has v k && not (has w k))
and_not_count v w hv hw =
    ones_count entries _ (and_lt entries v (2 ^ entries - 1 - w) hv (omega arith))
    ∙ count_cong entries _ _ (λ k l. has_and v (2 ^ entries - 1 - w) k ∙ ap (λ (t : Bool). has v k && t) (has_not entries w k hw l))

-- ## A word with entry k set

has_zero : (k : ℕ) → has 0 k ≡ false
unfolding has
has_zero zero = refl
has_zero (suc k) = has_rest 0 k ∙ has_zero k

has_power : (k j : ℕ) → has (2 ^ k) j ≡ eqb j k
unfolding has
has_power zero zero = refl
has_power zero (suc j) = has_rest 1 j ∙ has_zero j ∙ sym (eqb-suc-zero j)
has_power (suc k) zero =
    let even : 2 ^ suc k % 2 ≡ 0 = omega (arith, pow-suc 2 k) in
    has_first (2 ^ suc k) ∙ ap (λ (x : ℕ). eqb x 1) even ∙ sym (eqb-zero-suc k)
has_power (suc k) (suc j) =
    let halved : 2 ^ suc k / 2 ≡ 2 ^ k = omega (arith, pow-suc 2 k) in
    has_rest (2 ^ suc k) j ∙ ap (λ (x : ℕ). has x j) halved ∙ has_power k j ∙ sym (eqb-suc-suc j k)

or_digit : (u v : ℕ) → u < 2 → v < 2 → eqb (bit_or u v) 1 ≡ either (eqb u 1) (eqb v 1)
unfolding either
or_digit zero zero hu hv = refl
or_digit zero (suc zero) hu hv = refl
or_digit zero (suc (suc v)) hu hv = absurd (omega arith)
or_digit (suc zero) zero hu hv = refl
or_digit (suc zero) (suc zero) hu hv = refl
or_digit (suc zero) (suc (suc v)) hu hv = absurd (omega arith)
or_digit (suc (suc u)) v hu hv = absurd (omega arith)

has_or : (v w k : ℕ) → has (bit_or v w) k ≡ either (has v k) (has w k)
unfolding has
has_or v w k =
    ap (λ (x : ℕ). eqb x 1) (ap (λ (x : ℕ). x % 2) (or_shr v w k) ∙ or_mod (v / 2 ^ k) (w / 2 ^ k) 1)
    ∙ or_digit (v / 2 ^ k % 2) (w / 2 ^ k % 2) (low (v / 2 ^ k)) (low (w / 2 ^ k))

module _ (v k : ℕ) where
  pub set_there : has (bit_or v (2 ^ k)) k ≡ true
  set_there = has_or v (2 ^ k) k ∙ ap (either (has v k)) (has_power k k ∙ eq-eqb k k refl) ∙ either_true (has v k)

  pub set_elsewhere : (j : ℕ) → (j ≡ k → ⊥) → has (bit_or v (2 ^ k)) j ≡ has v j
  unfolding either
  set_elsewhere j h = has_or v (2 ^ k) j ∙ ap (either (has v j)) (has_power k j ∙ ne_eqb j k h) ∙ sym (either_false (has v j))
