-- "Building the tables from a pool's fields": what it answers, and what it leaves in everything lent. Assumes nothing.
use Rattle.std.specs.Prelude.{ℕ, ◌*◌, List, length}
use Rattle.refusal.specs.Fault.{Fault, ◌then◌}
use Rattle.refusal.specs.Answer.{Outcome, unless}
use Rattle.pool.specs.Tables.{Fields, field_room, pair_in, points_of_table}
use Rattle.pool.specs.Faults.{room_fault, pairs_fault}
use Rattle.graph.specs.Graph.{Graph, filled_graph}

-- "checks 4, then 6 and 7 pair by pair, then 9"; "9 also comes directly after 4, where a table of the fields is shorter than N; the last 9 is for
-- what is to be filled", here tables of so many entries; in 02, W-205, "3 comes first and 14 directly before 6"
unfoldable pub build_fault : ℕ → ℕ → List ℕ → Fields → ℕ → ℕ → Fault
build_fault v n points f compatibilities weights =
    pairs_fault v n (field_room f) points (pair_in f) then room_fault compatibilities (n * n) then room_fault weights (n * n)

-- "Building gives the number" of a refusal; built, it gives the tables and nothing else. Version 2 is weighed by its own points, and "Version 1 sheets
-- keep the points of document 01"
unfoldable pub building : ℕ → ℕ → List ℕ → Fields → Graph → Outcome (Unit {0}) Graph
building v n points f g =
    unless (build_fault v n points f (length g.compatibilities) (length g.weights)) tt (filled_graph (points_of_table v points) n (pair_in f) g) g
