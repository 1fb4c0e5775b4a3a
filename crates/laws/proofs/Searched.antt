-- What a search through the front of a list finds, item by item or place by place. Assumes nothing.
use mathlib.Core.Path.{◌≡◌, refl, ap, ◌∙◌}
use mathlib.Core.Bool.{Bool, true, false, ◌||◌}
use mathlib.Core.List.{List}
use Prim.Native.Nat.{ℕ, zero, suc, ◌≤◌}
use native.Mathlib.Numerals.{add-one}
use native.Mathlib.Omega.{arith}
use lib.ListN.{length, get_or, take}
use Rattle.std.specs.List.{list_any}
use Rattle.std.proofs.lemmas.List.Folds.{list_any_more}
use Rattle.laws.specs.Below.{either, any_below}

either_or : (s t : Bool) → (s || t) ≡ either s t
unfolding either
either_or true t = refl
either_or false t = refl

pub any_taken : {A : Type 0} (p : A → Bool) (d : A) (xs : List A) (n : ℕ) → n ≤ length xs
    → list_any p (take n xs) ≡ any_below n (λ j. p (get_or xs j d))
unfolding any_below
any_taken p d xs zero l = refl
any_taken p d xs (suc n) l =
    let more : list_any p (take (suc n) xs) ≡ (list_any p (take n xs) || p (get_or xs n d)) = rw (← add-one) (list_any_more p xs n d (omega arith)) in
    more ∙ ap (λ b. b || p (get_or xs n d)) (any_taken p d xs n (omega arith)) ∙ either_or _ _
