-- Document 02's W-201, "Late registrations join the sheet", and W-205's word on it: the sheet of two, what is refused, and what joining answers and
-- leaves. Assumes nothing.
use Rattle.std.specs.Prelude.{ℕ, ◌+◌, Bool, not, List, ◌++◌, map, length, eqb, ltb}
use Rattle.laws.specs.Below.{any_below}
use Rattle.laws.specs.Lent.{filled}
use Rattle.refusal.specs.Fault.{Fault, refuse, ◌then◌}
use Rattle.refusal.specs.Answer.{Outcome, unless}
use Rattle.pool.specs.Pool.{Pool}
use Rattle.pool.specs.Points.{point_count}
use Rattle.pool.specs.Sheet.{sheet_of, version_in, pairs_in, point_at, pair_at, pool_of}
use Rattle.pool.specs.Faults.{sheet_fault, room_fault}

-- "The first's pairs come first, then the second's, and the shuffle is the first's followed by the second's with the first's N added to each number";
-- "A joined sheet needs equal versions and points", and so has the first's
unfoldable pub joined_pool : Pool → Pool → Pool
joined_pool p q =
    record {
      version = p.version;
      points = p.points;
      pairs = p.pairs ++ q.pairs;
      shuffle = p.shuffle ++ map (λ v. v + length p.pairs) q.shuffle;
    }

-- "Make one sheet of two accepted ones"
unfoldable pub joined_sheet : List ℕ → List ℕ → List ℕ
joined_sheet a b = sheet_of (joined_pool (pool_of a) (pool_of b))

-- "15 where the versions or points of two joined sheets differ"
unfoldable pub differ_fault : List ℕ → List ℕ → Fault
differ_fault a b =
    refuse 15 0 (not (eqb (version_in a) (version_in b)))
    then refuse 15 0 (any_below (point_count (version_in a)) (λ k. not (eqb (point_at a k) (point_at b k))))

-- is an id in both: that of a pair of the first, and of a pair of the second?
unfoldable pub id_in_both : List ℕ → List ℕ → Bool
id_in_both a b = any_below (pairs_in b) (λ j. any_below (pairs_in a) (λ i. eqb (pair_at a i).id (pair_at b j).id))

-- "It refuses 11 where an id is in both"
unfoldable pub shared_fault : List ℕ → List ℕ → Fault
shared_fault a b = refuse 11 0 (id_in_both a b)

-- "and 12 where the pairs exceed 200"
unfoldable pub together_fault : List ℕ → List ℕ → Fault
together_fault a b = refuse 12 0 (ltb 200 (pairs_in a + pairs_in b))

-- of two accepted sheets and a buffer of `space` bytes: "in this order"; "9 comes last"; "11, 12 and 9 have place 0"; "15 [..] before 11 and with
-- place 0"
unfoldable pub both_fault : List ℕ → List ℕ → ℕ → Fault
both_fault a b space = differ_fault a b then shared_fault a b then together_fault a b then room_fault space (length (joined_sheet a b))

-- "after both sheets have been read, first sheet first"; "a sheet's own refusal has its place in that sheet"
unfoldable pub join_fault : List ℕ → List ℕ → ℕ → Fault
join_fault a b space = sheet_fault a then sheet_fault b then both_fault a b space

-- "Buffer and length are as with the writer": the answer is the sheet's length, and just that many bytes are filled
unfoldable pub joining : List ℕ → List ℕ → List ℕ → Outcome ℕ (List ℕ)
joining a b out = unless (join_fault a b (length out)) (length (joined_sheet a b)) (filled (joined_sheet a b) out) out
