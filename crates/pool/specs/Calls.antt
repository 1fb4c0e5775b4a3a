-- "Writer and printout": what reading and writing answer, and what they leave in everything lent. Assumes nothing.
use Rattle.std.specs.Prelude.{ℕ, List, length}
use Rattle.laws.specs.Lent.{filled}
use Rattle.refusal.specs.Fault.{◌then◌}
use Rattle.refusal.specs.Answer.{Outcome, unless}
use Rattle.pool.specs.Sheet.{sheet_of, version_in, pairs_in, pool_of}
use Rattle.pool.specs.Tables.{Tables, room, pool_in, filled_tables}
use Rattle.pool.specs.Faults.{sheet_fault, room_fault, tables_fault, pool_fault}

-- what a sheet's head says: the version, and N
pub record Head : Type 0 where
  pub version : ℕ
  pub pairs : ℕ

abbrev pub head : ℕ → ℕ → Head
head v n = record { version = v; pairs = n }

abbrev pub head_in : List ℕ → Head
head_in b = head (version_in b) (pairs_in b)

-- "Reading fills the first N entries of each lent field table": the answer is the version and N
unfoldable pub reading : List ℕ → Tables → Outcome Head Tables
reading b t = unless (sheet_fault b then tables_fault (version_in b) (pairs_in b) (room t) t.points) (head_in b) (filled_tables (pool_of b) t) t

-- "The writer turns a pool in its fields into a sheet in a lent buffer and gives its length; it fills just that many bytes"
unfoldable pub writing : ℕ → ℕ → Tables → List ℕ → Outcome ℕ (List ℕ)
writing v n t out =
    unless (pool_fault v n t then room_fault (length out) (length (sheet_of (pool_in v n t)))) (length (sheet_of (pool_in v n t)))
    (filled (sheet_of (pool_in v n t)) out) out
