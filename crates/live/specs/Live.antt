-- "Keep a live pool in lent tables": what a caller lends. Assumes nothing.
use Rattle.std.specs.Prelude.{ℕ, min, List, length}
use Rattle.laws.specs.Below.{table}
use Rattle.pool.specs.Pool.{Pair}
use Rattle.pool.specs.Points.{Points}
use Rattle.pool.specs.Tables.{Fields, field_room, pair_in, points_of_table}
use Rattle.graph.specs.Graph.{Graph}

-- the count of pairs, the table of the points, those of the fields, M and W, and for each patient the number of donors that suit
pub record Live : Type 0 where
  pub count : ℕ
  pub points : List ℕ
  pub fields : Fields
  pub graph : Graph
  pub suitable : List ℕ

abbrev pub live : ℕ → List ℕ → Fields → Graph → List ℕ → Live
live n p f g s = record { count = n; points = p; fields = f; graph = g; suitable = s }

-- "The pool's six points": it has points of its own, as a sheet of version 2
abbrev pub live_version : ℕ
live_version = 2

-- what its edges are weighed by
abbrev pub weighed_by : Live → Points
weighed_by l = points_of_table live_version l.points

-- pair i of it, and all of its pairs, in order
abbrev pub pair_of : Live → ℕ → Pair
pair_of l = pair_in l.fields

abbrev pub pairs_of : Live → List Pair
pairs_of l = table l.count (pair_of l)

-- how many pairs the shortest of the tables with an entry for each can hold
unfoldable pub pair_room : Live → ℕ
pair_room l = min (field_room l.fields) (length l.suitable)
