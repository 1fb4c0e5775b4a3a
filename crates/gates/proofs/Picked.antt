-- A pick: bit × (a − b) + b, as the machine has it, in signed words of 64 bits. Assumes nothing.
use Prim.Native.Nat.{ℕ, zero, suc, ◌-◌, ◌^◌, ◌≤◌, ◌<◌}
use mathlib.Core.Bool.{Bool, true, false, cond}
use mathlib.Core.Path.{◌≡◌, sym, ap, ap₂, subst, ◌∙◌}
use native.Mathlib.Nat.{not-suc-le-zero, le_of_suc-le-suc}
use native.Mathlib.Omega.{arith}
use lib.Dec.{T, eqb, ltb}
use lib.IntN.{ℤ, pos, negsuc, one, nat_abs, ◌+ℤ◌, ◌-ℤ◌, ◌*ℤ◌, +ℤ_idl, -ℤ-+ℤ_cancel, *ℤ-one, *ℤ_comm, zero-*ℤ}
use lib.Signed.{mag, non_neg}
use mir.Syntax.{w32, w64}
use mir.Val.{Fits, SFits, to_z, of_z}
use mir.ValLaws.{to_z_pos, to_z-of_z}

-- a difference is no larger than either number
within : (k m n : ℕ) → m < k → n < k → mag (pos m -ℤ pos n) < k
within k m zero h g = omega arith
within k m (suc n) h g = go (ltb m (suc n))
  where
    go : (t : Bool) → mag (cond t (negsuc (suc n - suc m)) (pos (m - suc n))) < k
    go true = omega arith
    go false = omega arith

-- what a bit times a difference is, and the number with it
bit_product : (bit : ℕ) (x : ℤ) → bit ≤ 1 → pos bit *ℤ x ≡ cond (eqb bit 1) x (pos 0)
unfolding one
bit_product zero x h = zero-*ℤ x
bit_product (suc zero) x h = *ℤ_comm (pos 1) x ∙ *ℤ-one x
bit_product (suc (suc k)) x h = absurd (not-suc-le-zero (le_of_suc-le-suc h))

small_cond : (t : Bool) (k : ℕ) (x : ℤ) → 0 < k → mag x < k → mag (cond t x (pos 0)) < k
small_cond true k x h g = g
small_cond false k x h g = h

pick_sum : (t : Bool) (a b : ℕ) → cond t (pos a -ℤ pos b) (pos 0) +ℤ pos b ≡ pos (cond t a b)
pick_sum true a b = -ℤ-+ℤ_cancel (pos a) (pos b)
pick_sum false a b = +ℤ_idl (pos b)

cond_lt : (t : Bool) (a b k : ℕ) → a < k → b < k → cond t a b < k
cond_lt true a b k h g = h
cond_lt false a b k h g = g

module _ (bit a b : ℕ) (h : bit ≤ 1) (p : a < 2 ^ 32) (q : b < 2 ^ 32) where
  difference_is : to_z w64 a -ℤ to_z w64 b ≡ pos a -ℤ pos b
  difference_is = ap₂ (λ (x y : ℤ). x -ℤ y) (to_z_pos w64 a (omega arith)) (to_z_pos w64 b (omega arith))

  pub difference_fits : SFits w64 (to_z w64 a -ℤ to_z w64 b)
  difference_fits = subst (SFits w64) (sym difference_is) (record { sfits = within (2 ^ 63) a b (omega arith) (omega arith) })

  abbrev product : ℤ
  product = to_z w64 bit *ℤ to_z w64 (of_z w64 (to_z w64 a -ℤ to_z w64 b))

  product_is : product ≡ cond (eqb bit 1) (pos a -ℤ pos b) (pos 0)
  product_is =
      ap₂ (λ (x y : ℤ). x *ℤ y) (to_z_pos w64 bit (omega arith)) (to_z-of_z w64 (to_z w64 a -ℤ to_z w64 b) difference_fits ∙ difference_is)
      ∙ bit_product bit (pos a -ℤ pos b) h

  pub product_fits : SFits w64 product
  product_fits =
      subst (SFits w64) (sym product_is)
      (record { sfits = small_cond (eqb bit 1) (2 ^ 63) (pos a -ℤ pos b) (omega arith) (within (2 ^ 63) a b (omega arith) (omega arith)) })

  abbrev picked : ℤ
  picked = to_z w64 (of_z w64 product) +ℤ to_z w64 b

  picked_is : picked ≡ pos (cond (eqb bit 1) a b)
  picked_is =
      ap₂ (λ (x y : ℤ). x +ℤ y) (to_z-of_z w64 product product_fits ∙ product_is) (to_z_pos w64 b (omega arith)) ∙ pick_sum (eqb bit 1) a b

  picked_small : cond (eqb bit 1) a b < 2 ^ 32
  picked_small = cond_lt (eqb bit 1) a b (2 ^ 32) p q

  pub picked_fits : SFits w64 picked
  picked_fits = subst (SFits w64) (sym picked_is) (record { sfits = omega (arith, picked_small) })

  read_back : to_z w64 (of_z w64 picked) ≡ pos (cond (eqb bit 1) a b)
  read_back = to_z-of_z w64 picked picked_fits ∙ picked_is

  pub value_is : nat_abs (to_z w64 (of_z w64 picked)) ≡ cond (eqb bit 1) a b
  value_is = ap nat_abs read_back

  pub value_fits : Fits w32 (nat_abs (to_z w64 (of_z w64 picked)))
  value_fits = subst (Fits w32) (sym value_is) (record { fits = picked_small })

  pub not_negative : T (non_neg (to_z w64 (of_z w64 picked)))
  not_negative = subst (λ (z : ℤ). T (non_neg z)) (sym read_back) tt
