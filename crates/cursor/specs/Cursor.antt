-- A cursor over the published order: a subset's places by value. Assumes nothing.
use Rattle.std.specs.Prelude.{ℕ, suc, ◌+◌, ◌-◌, ◌≤◌, ◌<◌, ◌≡◌, Bool, false, cond, List, [], ◌∷◌, eqb, ltb, get_or}
use Rattle.exchange.specs.Subsets.{Scope, order}
use Rattle.counting.specs.Counting.{of_size}
use Rattle.gates.specs.Secrets.{value_of}
use Rattle.gates.specs.declared.SecretPlaces.{SecretPlaces}
use Rattle.cursor.specs.declared.Places.{Places}

abbrev pub places : ℕ → ℕ → ℕ → Places
places a b c = record { u = a; v = b; w = c }

-- a choice's places, as a cursor has them
abbrev pub shown : SecretPlaces → Places
shown p = places (value_of p.u) (value_of p.v) (value_of p.w)

-- the cursor at a subset of n places: n where there is no place
unfoldable pub places_of : ℕ → List ℕ → Places
places_of n s = places (get_or s 0 n) (get_or s 1 n) (get_or s 2 n)

-- the cursor at the subset of number k; past the last, at none
unfoldable pub places_at : Scope → ℕ → Places
places_at q k = places_of q.pairs (get_or (order q) k [])

-- does a cursor stand at the subset s of n places?
unfoldable pub stands_at : ℕ → Places → List ℕ → Bool
stands_at n p s = cond (eqb p.u (get_or s 0 n)) (cond (eqb p.v (get_or s 1 n)) (eqb p.w (get_or s 2 n)) false) false

-- the number of the subset at which a cursor stands: how many of those listed come before it
unfoldable pub number_in : ℕ → List (List ℕ) → Places → ℕ
number_in n [] p = 0
number_in n (s ∷ ss) p = cond (stands_at n p s) 0 (suc (number_in n ss p))

-- the cursor at the subset of the next number
unfoldable pub next_places : Scope → Places → Places
next_places q p = places_at q (number_in q.pairs (order q) p + 1)

-- those of a list that are below n
unfoldable pub below : ℕ → List ℕ → List ℕ
below n [] = []
below n (p ∷ s) = cond (ltb p n) (p ∷ below n s) (below n s)

-- the subset at which a cursor stands
unfoldable pub subset_at : ℕ → Places → List ℕ
subset_at n p = below n (p.u ∷ p.v ∷ p.w ∷ [])

-- a cursor that stands at a subset of at most 200 places
pub record OnSubset (n : ℕ) (p : Places) : Type 0 where
  pub uv : p.u < p.v
  pub vw : p.v < p.w
  pub wn : p.w ≤ n
  pub few : n ≤ 200

-- k is the number of the two u, v among the twos of n places: after those that begin below u, which are all but those of the places from u on, and
-- after those that begin at u and end before v
pub record TwoAt (n u v k : ℕ) : Type 0 where
  pub rising : u < v
  pub within : v < n
  pub number : k + of_size 2 (n - u) ≡ of_size 2 n + (v - u - 1)
