-- Places and subsets of places, as lists of numbers: document 01's terms. Assumes nothing.
use Rattle.std.specs.Prelude.{ℕ, Bool, false, List, [], ◌∷◌, eqb}
use Rattle.laws.specs.Below.{either}

-- does p stand in the list?
unfoldable pub among : ℕ → List ℕ → Bool
among p [] = false
among p (q ∷ s) = either (eqb p q) (among p s)

-- do the two share a place?
unfoldable pub meets : List ℕ → List ℕ → Bool
meets [] t = false
meets (p ∷ s) t = either (among p t) (meets s t)
