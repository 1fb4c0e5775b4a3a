-- What starting, registering and withdrawing refuse, in which order; every refusal has place 0. Assumes nothing.
use Rattle.std.specs.Prelude.{ℕ, ◌+◌, ◌*◌, not, List, length, eqb, ltb}
use Rattle.laws.specs.Below.{any_below}
use Rattle.refusal.specs.Fault.{Fault, refuse, ◌then◌, first_below}
use Rattle.pool.specs.Pool.{Pair}
use Rattle.pool.specs.Points.{Points, registry_points}
use Rattle.pool.specs.Tables.{item_in, points_of_table}
use Rattle.pool.specs.Faults.{group_fault, id_fault, points_fault, room_fault, tables_fault}
use Rattle.live.specs.Live.{Live, live_version, pair_of, pair_room}
use Rattle.live.specs.Suitable.{ones_in}

-- "Starting refuses 14, then 9 where the points don't fit their lent table", of so many entries
unfoldable pub start_fault : Points → ℕ → Fault
start_fault given points = points_fault 0 given then room_fault points registry_points

-- 9 where n rows of n don't fit M or W, of so many entries
unfoldable pub graph_fault : ℕ → ℕ → ℕ → Fault
graph_fault n compatibilities weights = room_fault compatibilities (n * n) then room_fault weights (n * n)

-- "Both calls refuse 4 for a lent count above 200, 9 where a lent table can't hold that count or the points": n is the count, `space` the entries of the
-- shortest table with one for each pair, the next two those of M and W
unfoldable pub sizes_fault : ℕ → ℕ → ℕ → ℕ → List ℕ → Fault
sizes_fault n space compatibilities weights points =
    refuse 4 0 (ltb 200 n)
    then tables_fault live_version n space points
    then graph_fault n compatibilities weights

-- 10 "where a stored number isn't the ones in its column": n numbers t, and M
unfoldable pub numbers_fault : ℕ → List ℕ → List ℕ → Fault
numbers_fault n m t = first_below n (λ j. refuse 10 0 (not (eqb (item_in t j) (ones_in n m j))))

-- 4, 9, "then 14", and 10 "directly after 14"
unfoldable pub stored_fault : ℕ → ℕ → List ℕ → ℕ → List ℕ → List ℕ → Fault
stored_fault n space m weights points numbers =
    sizes_fault n space (length m) weights points
    then points_fault 0 (points_of_table live_version points)
    then numbers_fault n m numbers

-- "6 over all pairs, stored ones and the new one"
abbrev pub groups_fault : Pair → Fault
groups_fault q = group_fault 0 q.donor_blood q.patient_blood q.donor_age q.patient_age

unfoldable pub range_fault : ℕ → (ℕ → Pair) → Pair → Fault
range_fault n stored new = first_below n (λ i. groups_fault (stored i)) then groups_fault new

-- "then 7 over them"
unfoldable pub like_fault : ℕ → (ℕ → Pair) → Pair → Fault
like_fault n stored new = first_below n (id_fault 0 (λ j. (stored j).id)) then refuse 7 0 (any_below n (λ j. eqb (stored j).id new.id))

-- "12 at 200 pairs, and 9 where one more doesn't fit"
unfoldable pub more_fault : ℕ → ℕ → ℕ → ℕ → Fault
more_fault n space compatibilities weights =
    refuse 12 0 (eqb n 200) then room_fault space (n + 1) then graph_fault (n + 1) compatibilities weights

-- ## The calls, on the pool l

abbrev pub kept_fault : Live → Fault
kept_fault l = stored_fault l.count (pair_room l) l.graph.compatibilities (length l.graph.weights) l.points l.suitable

unfoldable pub register_fault : Pair → Live → Fault
register_fault p l =
    kept_fault l
    then range_fault l.count (pair_of l) p
    then like_fault l.count (pair_of l) p
    then more_fault l.count (pair_room l) (length l.graph.compatibilities) (length l.graph.weights)

-- "withdrawing refuses 16 where the id isn't in the pool"
unfoldable pub withdraw_fault : ℕ → Live → Fault
withdraw_fault id l = kept_fault l then refuse 16 0 (not (any_below l.count (λ j. eqb (pair_of l j).id id)))
