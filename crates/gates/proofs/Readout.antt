-- Is a place one of three: the readout of a choice. Assumes nothing.
use Prim.Native.Nat.{ℕ, ◌-◌}
use mathlib.Core.Bool.{Bool, true, false, ◌||◌}
use mathlib.Core.List.{[], ◌∷◌}
use mathlib.Core.Path.{◌≡◌, refl, ap}
use mir.Val.{bool_byte}
use lib.Dec.{eqb}
use Rattle.laws.specs.Below.{either, one}
use Rattle.greedy.specs.Places.{among}

by_or : (a b c : Bool) → bool_byte (a || b || c) ≡ one (either a (either b (either c false)))
unfolding either one
by_or true true true = refl
by_or true true false = refl
by_or true false true = refl
by_or true false false = refl
by_or false true true = refl
by_or false true false = refl
by_or false false true = refl
by_or false false false = refl

pub readout_is : (p u v w : ℕ) → 1 - bool_byte (eqb p u || eqb p v || eqb p w) ≡ 1 - one (among p (u ∷ v ∷ w ∷ []))
unfolding among
readout_is p u v w = ap (λ (k : ℕ). 1 - k) (by_or (eqb p u) (eqb p v) (eqb p w))
