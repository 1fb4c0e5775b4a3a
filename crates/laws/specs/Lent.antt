-- Memory that a caller lends. Assumes nothing.
use Rattle.std.specs.Prelude.{ℕ, ◌+◌, List, ◌++◌, length, take, drop}

-- a lent table, filled from its start; what lies past is unchanged
unfoldable pub filled : {A : Type 0} → List A → List A → List A
filled new old = new ++ drop (length new) old

-- a lent table with a list stored in it from a place on; what lies before and past is unchanged
unfoldable pub stored : {A : Type 0} → ℕ → List A → List A → List A
stored at new old = take at old ++ (new ++ drop (at + length new) old)
