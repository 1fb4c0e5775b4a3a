-- The fields that a row of M and a row of W are made of, as a step's contract has them. Assumes nothing.
use Rattle.std.specs.Prelude.{ℕ, List, []}
use Rattle.pool.specs.Tables.{Fields, fields}
use Rattle.pool.specs.Lent.{Slice}

-- the fields that M is made of: donor and patient blood, donor antigens, patient antibodies
abbrev pub fields_of_m : List ℕ → List ℕ → List ℕ → List ℕ → Fields
fields_of_m b c f h = fields [] b c [] [] f [] h

-- and W: donor and patient age, donor and patient antigens
abbrev pub fields_of_w : List ℕ → List ℕ → List ℕ → List ℕ → Fields
fields_of_w d e f g = fields [] [] [] d e f g []

-- at entry
abbrev pub lent_for_m : Slice → Slice → Slice → Slice → Fields
lent_for_m b c f h = fields_of_m b.entry.now c.entry.now f.entry.now h.entry.now

abbrev pub lent_for_w : Slice → Slice → Slice → Slice → Fields
lent_for_w d e f g = fields_of_w d.entry.now e.entry.now f.entry.now g.entry.now
