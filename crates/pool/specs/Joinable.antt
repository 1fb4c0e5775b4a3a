-- What joining promises: which sheets are joined, and what each refusal says, without the search for a fault; what the joined sheet has, entry by entry and
-- with no lists. The contract of `join` carries `JoinsRightly`; the theorems after it are over the definitions. Assumes nothing.
use Rattle.std.specs.Prelude.{ℕ, ◌+◌, ◌≤◌, ◌<◌, ◌≡◌, List, length, take, drop}
use Rattle.refusal.specs.Answer.{finished, refused, Outcome, outcome}
use Rattle.pool.specs.Sheet.{sheet_length, version_in, pairs_in, point_at, pair_at, shuffle_at, pool_of}
use Rattle.pool.specs.Tables.{Tables, filled_tables}
use Rattle.pool.specs.Calls.{head, reading}
use Rattle.pool.specs.Joining.{joined_pool, joined_sheet, joining}
use Rattle.pool.specs.Faultless.{FaultlessSheet, SheetFault, TablesHold}
use Rattle.pool.specs.Promises.{EntriesBelow}

-- "equal versions and points": of version 2 all six
pub record SamePoints (a b : List ℕ) : Type 0 where
  pub version : version_in a ≡ version_in b
  pub points : version_in a ≡ 2 → (k : ℕ) → k < 6 → point_at a k ≡ point_at b k

-- a pair of the one and a pair of the other have different ids
abbrev pub NoSharedId : List ℕ → List ℕ → Type 0
NoSharedId a b = (i j : ℕ) → i < pairs_in a → j < pairs_in b → (pair_at a i).id ≡ (pair_at b j).id → ⊥

-- how many pairs they have together, and how long their sheet is
abbrev pub pairs_together : List ℕ → List ℕ → ℕ
pairs_together a b = pairs_in a + pairs_in b

abbrev pub length_together : List ℕ → List ℕ → ℕ
length_together a b = sheet_length (version_in a) (pairs_together a b)

-- two sheets with none of the faults: each accepted, of one version and with the same points, no id in both, at most 200 pairs together
pub record Joinable (a b : List ℕ) : Type 0 where
  pub first : FaultlessSheet a
  pub second : FaultlessSheet b
  pub same : SamePoints a b
  pub apart : NoSharedId a b
  pub few : pairs_together a b ≤ 200

-- fault k at place o, of joining into a buffer of so many bytes: it is there, and none that is looked for before it. A sheet's own is never 9
pub data JoinFault (a b : List ℕ) (space : ℕ) : ℕ → ℕ → Type 0 where
  first : (k o : ℕ) → SheetFault a k o → JoinFault a b space k o
  second : (k o : ℕ) → FaultlessSheet a → SheetFault b k o → JoinFault a b space k o
  different_points : FaultlessSheet a → FaultlessSheet b → (SamePoints a b → ⊥) → JoinFault a b space 15 0
  shared_id :
      FaultlessSheet a
      → FaultlessSheet b
      → SamePoints a b
      → (i j : ℕ)
      → i < pairs_in a
      → j < pairs_in b
      → (pair_at a i).id ≡ (pair_at b j).id
      → JoinFault a b space 11 0
  too_many_together : FaultlessSheet a → FaultlessSheet b → SamePoints a b → NoSharedId a b → 200 < pairs_together a b → JoinFault a b space 12 0
  buffer_too_short : Joinable a b → space < length_together a b → JoinFault a b space 9 0

-- sheet c has the version and the points of both, the pairs and the shuffle of a, and after them those of b
pub record Contains (a b c : List ℕ) : Type 0 where
  pub first_points : SamePoints c a
  pub second_points : SamePoints c b
  pub many : pairs_in c ≡ pairs_together a b
  pub first_pairs : (i : ℕ) → i < pairs_in a → pair_at c i ≡ pair_at a i
  pub second_pairs : (j : ℕ) → j < pairs_in b → pair_at c (pairs_in a + j) ≡ pair_at b j
  pub first_numbers : (i : ℕ) → i < pairs_in a → shuffle_at c (pairs_in c) i ≡ shuffle_at a (pairs_in a) i
  pub second_numbers : (j : ℕ) → j < pairs_in b → shuffle_at c (pairs_in c) (pairs_in a + j) ≡ shuffle_at b (pairs_in b) j + pairs_in a

-- sheet c is that of a and b: an accepted sheet with the pairs and shuffles of both, and "joining with a sheet of N = 0 gives the other sheet"
pub record Joined (a b c : List ℕ) : Type 0 where
  pub accepted : FaultlessSheet c
  pub contains : Contains a b c
  pub first_empty : pairs_in a ≡ 0 → c ≡ b
  pub second_empty : pairs_in b ≡ 0 → c ≡ a

-- of the answer and what is left in the buffer `out`: what has none of the faults is joined, and nothing else is; a refusal names a fault that is there, and
-- "leaves all lent memory unchanged"; the bytes written are those of the joined sheet, and what lies past them is unchanged
pub record JoinsRightly (a b out : List ℕ) (o : Outcome ℕ (List ℕ)) : Type 0 where
  pub accepts : Joinable a b → length_together a b ≤ length out → o.answer ≡ finished (length_together a b)
  pub accepted : (m : ℕ) → o.answer ≡ finished m → (m ≡ length_together a b) × Joinable a b × (m ≤ length out)
  pub refuses : (k place : ℕ) → o.answer ≡ refused k place → JoinFault a b (length out) k place × (o.lent ≡ out)
  pub joins : (m : ℕ) → o.answer ≡ finished m → Joined a b (take m o.lent) × (drop m o.lent ≡ drop m out)

-- ## Read back, and three sheets; that a sheet's entries are below 256 is what the type of its slice gives

-- two sheets that were joined, read: the pool that both say together, into any tables that can hold it
abbrev pub JoinedIsRead : Type 0
JoinedIsRead =
    (a b out : List ℕ) (m : ℕ) (t : Tables)
    → EntriesBelow 256 a
    → EntriesBelow 256 b
    → (joining a b out).answer ≡ finished m
    → TablesHold (version_in a) (pairs_together a b) t
    → reading (take m (joining a b out).lent) t
    ≡ outcome (finished (head (version_in a) (pairs_together a b))) (filled_tables (joined_pool (pool_of a) (pool_of b)) t)

-- the first two joined first, or the last two: each can be joined with the third, and both ways give one sheet
pub record Regrouped (a b c : List ℕ) : Type 0 where
  pub first_two : Joinable (joined_sheet a b) c
  pub last_two : Joinable a (joined_sheet b c)
  pub same : joined_sheet (joined_sheet a b) c ≡ joined_sheet a (joined_sheet b c)

abbrev pub JoinedInAnyGrouping : Type 0
JoinedInAnyGrouping =
    (a b c : List ℕ)
    → EntriesBelow 256 a
    → EntriesBelow 256 b
    → EntriesBelow 256 c
    → Joinable a b
    → Joinable b c
    → NoSharedId a c
    → pairs_in a + pairs_in b + pairs_in c ≤ 200
    → Regrouped a b c
