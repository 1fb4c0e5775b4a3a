-- Each refusal has a number of its own: the number leads back to it. Assumes nothing.
use mathlib.Core.Path.{◌≡◌, refl, sym, ap, ◌∙◌}
use mathlib.Core.List.{[], ◌∷◌}
use Prim.Native.Nat.{ℕ}
use lib.ListN.{get_or}
use Rattle.refusal.specs.Number.{number_of}
use Rattle.refusal.specs.Promises.{OwnNumbers}
use Rattle.refusal.specs.declared.Refusal.{Refusal}
use Rattle.refusal.specs.declared.Refusal.TheVariants.{CutOff, WrongField, WrongVersion, TooManyPairs, LeftOver, OutOfRange, RepeatedId, NotAShuffle, TooShort, NotCompatibility}
use Rattle.refusal.specs.declared.Refusal.TheVariants.{SharedId, TooManyTogether, FloorTooHigh, WrongPoints, DifferentPoints, UnknownId, WeightlessEdge}

abbrev named : ℕ → Refusal
named k =
    get_or
    (CutOff
    ∷ CutOff
    ∷ WrongField
    ∷ WrongVersion
    ∷ TooManyPairs
    ∷ LeftOver
    ∷ OutOfRange
    ∷ RepeatedId
    ∷ NotAShuffle
    ∷ TooShort
    ∷ NotCompatibility
    ∷ SharedId
    ∷ TooManyTogether
    ∷ FloorTooHigh
    ∷ WrongPoints
    ∷ DifferentPoints
    ∷ UnknownId
    ∷ WeightlessEdge
    ∷ []) k CutOff

named_number : (a : Refusal) → named (number_of a) ≡ a
named_number CutOff = refl
named_number WrongField = refl
named_number WrongVersion = refl
named_number TooManyPairs = refl
named_number LeftOver = refl
named_number OutOfRange = refl
named_number RepeatedId = refl
named_number NotAShuffle = refl
named_number TooShort = refl
named_number NotCompatibility = refl
named_number SharedId = refl
named_number TooManyTogether = refl
named_number FloorTooHigh = refl
named_number WrongPoints = refl
named_number DifferentPoints = refl
named_number UnknownId = refl
named_number WeightlessEdge = refl

pub own_numbers : OwnNumbers
own_numbers a b e = sym (named_number a) ∙ ap named e ∙ named_number b
