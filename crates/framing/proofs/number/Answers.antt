-- `framing::number` meets its contract. The loop's invariant: x is the number in the bytes passed. Assumes nothing.
use Prim.Native.Nat.{ℕ, ◌+◌, ◌*◌, ◌^◌, ◌≤◌, ◌<◌}
use mathlib.Core.Path.{◌≡◌, refl, ap, ap₂, sym, ◌∙◌}
use mathlib.Core.List.{List}
use native.Mathlib.Nat.{pow-le-pow_right, pow-suc}
use native.Mathlib.Numerals.{add-one}
use native.Mathlib.Omega.{arith}
use lib.Arith.{digits_lt}
use lib.Dec.{lit<}
use lib.ListN.{get_or}
use Rattle.std.proofs.lemmas.List.Edits.{length-between, get_or-between}
use Rattle.laws.specs.Digits.{big_endian}
use Rattle.laws.proofs.Digits.{big_endian_lt, big_endian_more}
use Rattle.framing.proofs.number.Goals as goal

-- x is the number in the i bytes passed
module _ (b : List ℕ) (at i x : ℕ) (e : x ≡ big_endian i b at) where
  -- of at most eight bytes, one more fits
  fits : i < 8 → ((j : ℕ) → get_or b j 0 < 256) → (y : ℕ) → y < 256 → x * 256 + y < 256 ^ 8
  fits l s y m =
      let most : 256 ^ (i + 1) ≤ 256 ^ 8 = pow-le-pow_right (lit< tt) {i = i + 1} {j = 8} (omega arith) in
      let wider : x * 256 + y < 256 ^ (i + 1) = rw (add-one, pow-suc, e) (digits_lt (big_endian_lt b at i s) m) in
      omega arith

  one_more : (y : ℕ) → y ≡ get_or b (at + i) 0 → x * 256 + y ≡ big_endian (i + 1) b at
  one_more y d = ap₂ (λ (v w : ℕ). v * 256 + w) e d ∙ sym (big_endian_more i b at)

  all_of : (k : ℕ) → i ≡ k → x ≡ big_endian k b at
  all_of k l = e ∙ ap (λ (j : ℕ). big_endian j b at) l

pub loop-byte-init : goal.loop-byte-init
unfolding big_endian
loop-byte-init c = refl

pub loop-byte-preserved : goal.loop-byte-preserved
loop-byte-preserved c = one_more _ _ _ _ c.loop-byte.invariant _ (grind (arith, c.from.ensures, get_or-between {X = ℕ}, length-between {X = ℕ}))

pub overflow_mul-x : goal.overflow_mul-x
overflow_mul-x c =
    omega (arith, fits _ _ _ _ c.loop-byte.invariant (omega (arith, length-between {X = ℕ})) (λ j. (c.type_inv.b j).fits) 0 (lit< tt))

pub overflow_add-x : goal.overflow_add-x
overflow_add-x c =
    omega (
      arith,
      fits _ _ _ _ c.loop-byte.invariant (omega (arith, length-between {X = ℕ})) (λ j. (c.type_inv.b j).fits) c.from.result (omega arith),
    )

pub returns : goal.returns
returns c = all_of _ _ _ _ c.loop-byte.invariant _ (omega (arith, length-between {X = ℕ}))
