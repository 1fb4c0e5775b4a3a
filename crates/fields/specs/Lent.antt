-- The tables that a value of these structs lends, as lists. Assumes nothing.
use Rattle.std.specs.Prelude.{List, ℕ, ◌≡◌}
use Rattle.std.specs.Borrow.{MutBor}
use Rattle.pool.specs.Tables.{Fields, fields, Tables, tables}
use Rattle.fields.specs.declared.Fields.{Fields as Lent}
use Rattle.fields.specs.declared.FieldsMut.{FieldsMut}
use Rattle.fields.specs.declared.Tables.{Tables as MutLent}

-- what its references point to
abbrev pub fields_in : Lent → Fields
fields_in f =
    fields f.ids.now f.donor_blood.now f.patient_blood.now f.donor_age.now f.patient_age.now f.donor_antigens.now f.patient_antigens.now f.patient_antibodies.now

-- ## Tables that are lent to be changed

-- what their references point to
abbrev pub fields_lent : FieldsMut → Fields
fields_lent f =
    fields f.ids.now f.donor_blood.now f.patient_blood.now f.donor_age.now f.patient_age.now f.donor_antigens.now f.patient_antigens.now f.patient_antibodies.now

abbrev Left : Type 0
Left = MutBor (List ℕ)

-- what is left behind them where they were passed by value
abbrev pub fields_left : Left × (Left × (Left × (Left × (Left × (Left × (Left × (Left × Unit {0}))))))) → Fields
fields_left f =
    fields f.0.now f.1.0.now f.1.1.0.now f.1.1.1.0.now f.1.1.1.1.0.now f.1.1.1.1.1.0.now f.1.1.1.1.1.1.0.now f.1.1.1.1.1.1.1.0.now

-- ## All ten tables of a pool, lent to be filled

abbrev pub tables_in : MutLent → Tables
tables_in t =
    tables t.points.now
    (fields t.ids.now t.donor_blood.now t.patient_blood.now t.donor_age.now t.patient_age.now t.donor_antigens.now t.patient_antigens.now
    t.patient_antibodies.now) t.shuffle.now

-- the same tables are lent as before, whatever was written into them: what a caller needs to know that it was its own that were filled
pub record Same (old new : MutLent) : Type 0 where
  pub points : new.points.ghost_name ≡ old.points.ghost_name
  pub ids : new.ids.ghost_name ≡ old.ids.ghost_name
  pub donor_blood : new.donor_blood.ghost_name ≡ old.donor_blood.ghost_name
  pub patient_blood : new.patient_blood.ghost_name ≡ old.patient_blood.ghost_name
  pub donor_age : new.donor_age.ghost_name ≡ old.donor_age.ghost_name
  pub patient_age : new.patient_age.ghost_name ≡ old.patient_age.ghost_name
  pub donor_antigens : new.donor_antigens.ghost_name ≡ old.donor_antigens.ghost_name
  pub patient_antigens : new.patient_antigens.ghost_name ≡ old.patient_antigens.ghost_name
  pub patient_antibodies : new.patient_antibodies.ghost_name ≡ old.patient_antibodies.ghost_name
  pub shuffle : new.shuffle.ghost_name ≡ old.shuffle.ghost_name
