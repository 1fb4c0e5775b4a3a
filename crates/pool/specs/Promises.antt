-- What is promised of sheets, as statements: the proofs are in `proofs/`, and the contracts of `reader` and `writer` carry theirs.
-- Assumes nothing.
use Rattle.std.specs.Prelude.{ℕ, ◌≤◌, ◌<◌, ◌≡◌, List, length, get_or, take}
use Rattle.laws.specs.Lent.{filled}
use Rattle.refusal.specs.Answer.{finished, refused, Outcome, outcome}
use Rattle.pool.specs.Sheet.{sheet_length, version_in, pairs_in}
use Rattle.pool.specs.Tables.{Tables, tables, pool_in, filled_tables}
use Rattle.pool.specs.Calls.{Head, head, head_in, reading, writing}
use Rattle.pool.specs.Faultless.{FaultlessSheet, SheetFault, TablesHold, FaultlessPool, PoolFault}

-- fault k of reading, at place o: one of the sheet's, or 9 with place 0 where a lent table can't hold its pairs or its points
pub data ReadFault (b : List ℕ) (t : Tables) : ℕ → ℕ → Type 0 where
  sheet : (k o : ℕ) → SheetFault b k o → ReadFault b t k o
  table_too_short : FaultlessSheet b → (TablesHold (version_in b) (pairs_in b) t → ⊥) → ReadFault b t 9 0

-- of the answer and what is left: "Every sheet with none of the listed faults is accepted", and no other; a refusal names a fault that is there, and
-- "leaves all lent memory unchanged"
pub record ReadsRightly (b : List ℕ) (t : Tables) (o : Outcome Head Tables) : Type 0 where
  pub accepts : FaultlessSheet b → TablesHold (version_in b) (pairs_in b) t → o.answer ≡ finished (head_in b)
  pub accepted : (h : Head) → o.answer ≡ finished h → (h ≡ head_in b) × FaultlessSheet b × TablesHold (version_in b) (pairs_in b) t
  pub refuses : (k place : ℕ) → o.answer ≡ refused k place → ReadFault b t k place × (o.lent ≡ t)
  -- "A version 1 pool has no points, and lent ones are neither read nor changed": with any others, in a table of any length, the answer and the other tables
  -- come out the same
  pub unchanged : version_in b ≡ 1 → o.lent.points ≡ t.points
  pub unread : version_in b ≡ 1 → (points : List ℕ)
      → reading b (tables points t.fields t.shuffle) ≡ outcome o.answer (tables points o.lent.fields o.lent.shuffle)

-- the same of a pool that is written into the buffer `out`; a refusal has place 0
pub record WritesRightly (v n : ℕ) (t : Tables) (out : List ℕ) (o : Outcome ℕ (List ℕ)) : Type 0 where
  pub accepts : FaultlessPool v n t → sheet_length v n ≤ length out → o.answer ≡ finished (sheet_length v n)
  pub accepted : (m : ℕ) → o.answer ≡ finished m → (m ≡ sheet_length v n) × FaultlessPool v n t × (m ≤ length out)
  pub refuses : (k place : ℕ) → o.answer ≡ refused k place → (place ≡ 0) × PoolFault v n t (length out) k × (o.lent ≡ out)
  -- of version 1 any points, in a table of any length, give this answer and leave this buffer
  pub unread : v ≡ 1 → (points : List ℕ) → o ≡ writing v n (tables points t.fields t.shuffle) out

-- what the types of the slices give: each entry is below m
abbrev pub EntriesBelow : ℕ → List ℕ → Type 0
EntriesBelow m l = (i : ℕ) → get_or l i 0 < m

pub record TablesTyped (t : Tables) : Type 0 where
  pub points : EntriesBelow 65536 t.points
  pub ids : EntriesBelow 4294967296 t.fields.ids
  pub donor_antigens : EntriesBelow 18446744073709551616 t.fields.donor_antigens
  pub patient_antigens : EntriesBelow 18446744073709551616 t.fields.patient_antigens
  pub patient_antibodies : EntriesBelow 18446744073709551616 t.fields.patient_antibodies
  pub shuffle : EntriesBelow 65536 t.shuffle

-- "The longest sheet has 7,410 bytes", and that of version 2 has 7,425: no sheet has more, and one of 200 pairs has as many
pub record LongestSheet : Type 0 where
  pub most : (b : List ℕ) → FaultlessSheet b → length b ≤ 7425
  pub most_first : (b : List ℕ) → FaultlessSheet b → version_in b ≡ 1 → length b ≤ 7410
  pub reached : sheet_length 2 200 ≡ 7425
  pub reached_first : sheet_length 1 200 ≡ 7410

-- "An accepted pool sheet read and written again is the same sheet"; "Version 2 is written and read back like version 1"
abbrev pub SheetComesBack : Type 0
SheetComesBack =
    (b : List ℕ) (t : Tables) (out : List ℕ) (h : Head)
    → EntriesBelow 256 b
    → (reading b t).answer ≡ finished h
    → length b ≤ length out
    → writing h.version h.pairs (reading b t).lent out ≡ outcome (finished (length b)) (filled b out)

-- "A written pool reads back as that pool", into any tables that can hold it
abbrev pub PoolComesBack : Type 0
PoolComesBack =
    (v n : ℕ) (t : Tables) (out : List ℕ) (m : ℕ) (other : Tables)
    → TablesTyped t
    → (writing v n t out).answer ≡ finished m
    → TablesHold v n other
    → reading (take m (writing v n t out).lent) other ≡ outcome (finished (head v n)) (filled_tables (pool_in v n t) other)
