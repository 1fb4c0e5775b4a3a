-- The table of four by four is the rule in words. Assumes nothing.
use mathlib.Core.Path.{◌≡◌, refl}
use mathlib.Core.Bool.{Bool, true, false, xor}
use Prim.Native.Nat.{ℕ}
use native.Mathlib.Omega.{arith}
use Rattle.laws.specs.Below.{any_below, either}
use Rattle.laws.proofs.Below.{any_none, true_false}
use Rattle.donation.specs.Compatibility.{blood_table, suits}
use Rattle.donation.specs.Promises.{suits_in_words, TableIsRule}

-- the two differ at this donor and patient
differs : ℕ → ℕ → Bool
differs donor patient = xor (suits donor patient) (suits_in_words donor patient)

-- one test over the whole table, which is computed
nowhere : any_below 4 (λ donor. any_below 4 (differs donor)) ≡ false
unfolding any_below either differs xor suits blood_table suits_in_words
nowhere = refl

xor_same : (s t : Bool) → xor s t ≡ false → s ≡ t
unfolding xor
xor_same true true e = refl
xor_same true false e = true_false refl e
xor_same false true e = true_false refl e
xor_same false false e = refl

pub table_is_rule : TableIsRule
unfolding differs
table_is_rule donor patient d p =
    xor_same _ _ (any_none 4 (differs donor) (any_none 4 (λ donor. any_below 4 (differs donor)) nowhere donor (omega arith)) patient (omega arith))
