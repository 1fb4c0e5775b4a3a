-- "Subsets and their weights". l is the largest size; m and w give the compatibility and the weight of donor i for patient j. Assumes nothing.
use Rattle.std.specs.Prelude.{ℕ, zero, suc, ◌+◌, ◌*◌, cond, List, [], ◌∷◌, ◌++◌, map, eqb, ltb, length, get_or}
use Rattle.greedy.specs.Tally.{Tally, raise}

-- ## The published order

-- all ascending lists of k of the c places from p on, in ascending order
unfoldable pub ascending : ℕ → ℕ → ℕ → List (List ℕ)
ascending zero p c = [] ∷ []
ascending (suc k) p zero = []
ascending (suc k) p (suc c) = map (λ (s : List ℕ). p ∷ s) (ascending k (suc p) c) ++ ascending (suc k) (suc p) c

-- "Subsets of places are numbered from 0: all triples u < v < w in ascending order, then all twos u < v in ascending order":
-- those of two to l of n places, the larger first
unfoldable pub subsets : ℕ → ℕ → List (List ℕ)
subsets zero n = []
subsets (suc zero) n = []
subsets (suc (suc k)) n = ascending (suc (suc k)) 0 n ++ subsets (suc k) n

-- which subsets are formed: of how many places, one for each pair, and of how many of them at most
pub record Scope : Type 0 where
  pub pairs : ℕ
  pub largest : ℕ

abbrev pub scope : ℕ → ℕ → Scope
scope l n = record { pairs = n; largest = l }

-- document 01's: twos and triples of n places
abbrev pub up_to_three : ℕ → Scope
up_to_three n = scope 3 n

-- all of them, as they are numbered
abbrev pub order : Scope → List (List ℕ)
order q = subsets q.largest q.pairs

-- "n that of all subsets"
abbrev pub subset_count : Scope → ℕ
subset_count q = length (order q)

-- ## Cycles: lists of places, or of pairs, in giving order

-- each of `rest` in turn, followed by what `orders` makes of the others
unfoldable pub each_first : (List ℕ → List (List ℕ)) → List ℕ → List ℕ → List (List ℕ)
each_first orders before [] = []
each_first orders before (p ∷ rest) =
    map (λ (s : List ℕ). p ∷ s) (orders (before ++ rest)) ++ each_first orders (before ++ (p ∷ [])) rest

-- k places in every order; in ascending order, where they ascend
unfoldable pub orders : ℕ → List ℕ → List (List ℕ)
orders zero s = [] ∷ []
orders (suc k) s = each_first (λ t. orders k t) [] s

-- "A two has one cycle; a triple has u→v→w→u (first) and u→w→v→u (second)": the lowest place, then the others in every order
unfoldable pub cycles : List ℕ → List (List ℕ)
cycles [] = []
cycles (u ∷ s) = map (λ (o : List ℕ). u ∷ o) (orders (length s) s)

pub record Edge : Type 0 where
  pub donor : ℕ
  pub patient : ℕ

-- the edges of a way: each one's donor to the next one's patient
unfoldable pub along : List ℕ → List Edge
along [] = []
along (a ∷ []) = []
along (a ∷ b ∷ c) = record { donor = a; patient = b } ∷ along (b ∷ c)

-- the edges of a cycle: the last one's donor gives to the first one's patient
unfoldable pub edges : List ℕ → List Edge
edges [] = []
edges (a ∷ c) = along (a ∷ c ++ (a ∷ []))

-- ## Weights

-- entry (i, j) of a lent table of rows of n, "row i holding donor i"
unfoldable pub entry : List ℕ → ℕ → ℕ → ℕ → ℕ
entry t n i j = get_or t (i * n + j) 0

unfoldable pub product_of : (ℕ → ℕ → ℕ) → List Edge → ℕ
product_of m [] = 1
product_of m (e ∷ es) = m e.donor e.patient * product_of m es

unfoldable pub sum_of : (ℕ → ℕ → ℕ) → List Edge → ℕ
sum_of w [] = 0
sum_of w (e ∷ es) = w e.donor e.patient + sum_of w es

-- "A cycle weighs the product of its M entries times the sum of its W entries"
unfoldable pub weigh : (ℕ → ℕ → ℕ) → (ℕ → ℕ → ℕ) → List ℕ → ℕ
weigh m w c = product_of m (edges c) * sum_of w (edges c)

-- the first of greatest weight, of a and those listed after it; and of a list
unfoldable pub first_of : (List ℕ → ℕ) → List ℕ → List (List ℕ) → List ℕ
first_of weight a [] = a
first_of weight a (b ∷ bs) = first_of weight (cond (ltb (weight a) (weight b)) b a) bs

unfoldable pub heaviest : (List ℕ → ℕ) → List (List ℕ) → List ℕ
heaviest weight [] = []
heaviest weight (c ∷ cs) = first_of weight c cs

-- "Place p holds pair s(p), where s is the shuffle": the pairs of a cycle of places
unfoldable pub pairs_at : List ℕ → List ℕ → List ℕ
pairs_at s c = map (λ (p : ℕ). get_or s p 0) c

-- the cycle that a subset is weighed by: "a triple weighs the larger; the first wins a tie"
unfoldable pub best_cycle : (ℕ → ℕ → ℕ) → (ℕ → ℕ → ℕ) → List ℕ → List ℕ → List ℕ
best_cycle m w s t = heaviest (λ (c : List ℕ). weigh m w (pairs_at s c)) (cycles t)

unfoldable pub subset_weight : (ℕ → ℕ → ℕ) → (ℕ → ℕ → ℕ) → List ℕ → List ℕ → ℕ
subset_weight m w s t = weigh m w (pairs_at s (best_cycle m w s t))

-- all of them, in the published order
abbrev pub subset_weights : Scope → (ℕ → ℕ → ℕ) → (ℕ → ℕ → ℕ) → List ℕ → List ℕ
subset_weights q m w s = map (subset_weight m w s) (order q)

-- ## Their tally

-- "one comparison per triple evaluated"; "2 products per two evaluated, 7 per triple"
unfoldable pub evaluation_tally : List (List ℕ) → Tally → Tally
evaluation_tally [] t = t
evaluation_tally (s ∷ ss) t = evaluation_tally ss (cond (eqb (length s) 2) (raise 0 2 t) (raise 1 7 t))
