-- The planned cycles and rival sets, in the words of document 01's 'Resolution', and of document 02's W-202. Assumes nothing.
use Rattle.std.specs.Prelude.{ℕ, ◌≤◌, ◌<◌, ◌≡◌, false, List, [], ◌∷◌, map, length, take}
use Rattle.greedy.specs.Places.{among, meets}
use Rattle.exchange.specs.Subsets.{Edge, edges, weigh}
use Rattle.exchange.specs.Input.{Input}
use Rattle.exchange.specs.Resolution.{pairs_of, total}
use Rattle.exchange.specs.Planning.{Lent, Plan}

-- "The planned cycles are the first records, as many as the result's number of cycles"
unfoldable pub planned : ℕ → Plan → Lent → List (List ℕ)
planned n p t = map (pairs_of n) (take p.cycles t.records)

-- every one of a list
abbrev pub Each : {A : Type 0} → (A → Type 0) → List A → Type 0
Each P [] = Unit {0}
Each P (x ∷ xs) = P x × Each P xs

-- "different": none stands again after it
abbrev pub Different : List ℕ → Type 0
Different [] = Unit {0}
Different (p ∷ c) = (among p c ≡ false) × Different c

-- "A cycle is executable where all its M entries are 1"
abbrev pub Executable : (ℕ → ℕ → ℕ) → List ℕ → Type 0
Executable m c = Each (λ (e : Edge). m e.donor e.patient ≡ 1) (edges c)

-- "executable cycles of two or three different pairs of the pool": of n pairs, with l for three
pub record Exchange (l n : ℕ) (m : ℕ → ℕ → ℕ) (c : List ℕ) : Type 0 where
  pub least : 2 ≤ length c
  pub most : length c ≤ l
  pub pool : Each (λ (p : ℕ). p < n) c
  pub different : Different c
  pub executable : Executable m c

-- "no pair in two of them": none shares a pair with one after it
abbrev pub Apart : List (List ℕ) → Type 0
Apart [] = Unit {0}
Apart (c ∷ cs) = Each (λ (d : List ℕ). meets c d ≡ false) cs × Apart cs

-- "any set of executable cycles of two or three different pairs of the pool, the empty set too, with no pair in two of its cycles"
pub record ExchangeSet (l n : ℕ) (m : ℕ → ℕ → ℕ) (cs : List (List ℕ)) : Type 0 where
  pub exchanges : Each (Exchange l n m) cs
  pub apart : Apart cs

-- those of planning's input
abbrev pub ExchangeSetOf : Input → List (List ℕ) → Type 0
ExchangeSetOf q cs = ExchangeSet q.scope.largest q.scope.pairs q.compatible cs

-- "cycles [that] all weigh more than the floor"
abbrev pub AboveFloor : Input → List (List ℕ) → Type 0
AboveFloor q cs = Each (λ (c : List ℕ). q.floor < weigh q.compatible q.weight c) cs

-- what such a set weighs
abbrev pub weight_in : Input → List (List ℕ) → ℕ
weight_in q cs = total q.compatible q.weight cs
