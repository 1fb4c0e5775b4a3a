-- Lent tables as a contract has them: one value for all of them, with what was lent (`.entry`) and what is left (`.exit`). Assumes nothing.
use Rattle.std.specs.Prelude.{ℕ, List}
use Rattle.std.specs.Borrow.{Bor, MutBor}
use denote.Triple.Both.{Both}
use Rattle.pool.specs.Tables.{Fields, Tables, fields, tables}

-- a lent slice at one moment, and at entry and exit
abbrev pub Ref : Type 0
Ref = Bor (List ℕ)

abbrev pub Slice : Type 0
Slice = Both Ref Ref

-- the eight tables of the fields, and all ten, at one moment
abbrev pub fields_now : Ref → Ref → Ref → Ref → Ref → Ref → Ref → Ref → Fields
fields_now a b c d e f g h = fields a.now b.now c.now d.now e.now f.now g.now h.now

abbrev pub tables_now : Ref → Ref → Ref → Ref → Ref → Ref → Ref → Ref → Ref → Ref → Tables
tables_now p a b c d e f g h s = tables p.now (fields_now a b c d e f g h) s.now

-- at entry and exit
abbrev pub lent_fields : Slice → Slice → Slice → Slice → Slice → Slice → Slice → Slice → Both Fields Fields
lent_fields a b c d e f g h =
    record {
      entry = fields_now a.entry b.entry c.entry d.entry e.entry f.entry g.entry h.entry;
      exit = fields_now a.exit b.exit c.exit d.exit e.exit f.exit g.exit h.exit;
    }

abbrev pub lent_tables : Slice → Slice → Slice → Slice → Slice → Slice → Slice → Slice → Slice → Slice → Both Tables Tables
lent_tables p a b c d e f g h s =
    record {
      entry = tables_now p.entry a.entry b.entry c.entry d.entry e.entry f.entry g.entry h.entry s.entry;
      exit = tables_now p.exit a.exit b.exit c.exit d.exit e.exit f.exit g.exit h.exit s.exit;
    }

-- ## The same of tables that are lent by `&mut`, whose references are values of another type

abbrev pub MutRef : Type 0
MutRef = MutBor (List ℕ)

abbrev pub MutSlice : Type 0
MutSlice = Both MutRef MutRef

abbrev pub mut_fields_now : MutRef → MutRef → MutRef → MutRef → MutRef → MutRef → MutRef → MutRef → Fields
mut_fields_now a b c d e f g h = fields a.now b.now c.now d.now e.now f.now g.now h.now

abbrev pub mut_tables_now : MutRef → MutRef → MutRef → MutRef → MutRef → MutRef → MutRef → MutRef → MutRef → MutRef → Tables
mut_tables_now p a b c d e f g h s = tables p.now (mut_fields_now a b c d e f g h) s.now

abbrev pub mut_lent_fields : MutSlice → MutSlice → MutSlice → MutSlice → MutSlice → MutSlice → MutSlice → MutSlice → Both Fields Fields
mut_lent_fields a b c d e f g h =
    record {
      entry = mut_fields_now a.entry b.entry c.entry d.entry e.entry f.entry g.entry h.entry;
      exit = mut_fields_now a.exit b.exit c.exit d.exit e.exit f.exit g.exit h.exit;
    }

abbrev pub mut_lent_tables : MutSlice → MutSlice → MutSlice → MutSlice → MutSlice → MutSlice → MutSlice → MutSlice → MutSlice → MutSlice
    → Both Tables Tables
mut_lent_tables p a b c d e f g h s =
    record {
      entry = mut_tables_now p.entry a.entry b.entry c.entry d.entry e.entry f.entry g.entry h.entry s.entry;
      exit = mut_tables_now p.exit a.exit b.exit c.exit d.exit e.exit f.exit g.exit h.exit s.exit;
    }
