-- What planning is given: one record, with the floor (document 02, W-202) and the largest size, which document 01 leaves at 3. Assumes nothing.
use Rattle.std.specs.Prelude.{ℕ, List}
use Rattle.exchange.specs.Subsets.{Scope, scope, up_to_three, entry}

-- N and the largest size; the floor, above which a subset must weigh to be chosen; M(i, j) and W(i, j); the shuffle
pub record Input : Type 0 where
  pub scope : Scope
  pub floor : ℕ
  pub compatible : ℕ → ℕ → ℕ
  pub weight : ℕ → ℕ → ℕ
  pub shuffle : List ℕ

-- of any floor and largest size
abbrev pub input_with : ℕ → ℕ → ℕ → (ℕ → ℕ → ℕ) → (ℕ → ℕ → ℕ) → List ℕ → Input
input_with f l n m w s = record { scope = scope l n; floor = f; compatible = m; weight = w; shuffle = s }

-- the same as a caller lends it: M and W in rows of N
pub record Request : Type 0 where
  pub scope : Scope
  pub floor : ℕ
  pub compatibilities : List ℕ
  pub weights : List ℕ
  pub shuffle : List ℕ

abbrev pub input_of : Request → Input
input_of r =
    record {
      scope = r.scope;
      floor = r.floor;
      compatible = entry r.compatibilities r.scope.pairs;
      weight = entry r.weights r.scope.pairs;
      shuffle = r.shuffle;
    }

-- ## With document 01's sizes, to three

abbrev pub input : ℕ → ℕ → (ℕ → ℕ → ℕ) → (ℕ → ℕ → ℕ) → List ℕ → Input
input n f m w s = record { scope = up_to_three n; floor = f; compatible = m; weight = w; shuffle = s }

abbrev pub request : ℕ → ℕ → List ℕ → List ℕ → List ℕ → Request
request n f M W s = record { scope = up_to_three n; floor = f; compatibilities = M; weights = W; shuffle = s }

-- "Floor 0 gives the plans of today, and `plan` uses it"
abbrev pub no_floor : ℕ
no_floor = 0
