-- A pool in tables that a caller lends: pair i's fields stand at i. Assumes nothing.
use Rattle.std.specs.Prelude.{ℕ, min, List, map, length, get_or}
use Rattle.laws.specs.Below.{table}
use Rattle.laws.specs.Lent.{filled}
use Rattle.pool.specs.Pool.{Pair, Pool}
use Rattle.pool.specs.Points.{Points, point_count, points_of}

-- a table for each field of a pair
pub record Fields : Type 0 where
  pub ids : List ℕ
  pub donor_blood : List ℕ
  pub patient_blood : List ℕ
  pub donor_age : List ℕ
  pub patient_age : List ℕ
  pub donor_antigens : List ℕ
  pub patient_antigens : List ℕ
  pub patient_antibodies : List ℕ

abbrev pub fields : List ℕ → List ℕ → List ℕ → List ℕ → List ℕ → List ℕ → List ℕ → List ℕ → Fields
fields a b c d e f g h =
    record {
      ids = a;
      donor_blood = b;
      patient_blood = c;
      donor_age = d;
      patient_age = e;
      donor_antigens = f;
      patient_antigens = g;
      patient_antibodies = h;
    }

-- all ten: those, the shuffle, and the points
pub record Tables : Type 0 where
  pub points : List ℕ
  pub fields : Fields
  pub shuffle : List ℕ

abbrev pub tables : List ℕ → Fields → List ℕ → Tables
tables p f s = record { points = p; fields = f; shuffle = s }

-- number k of a table
abbrev pub item_in : List ℕ → ℕ → ℕ
item_in t k = get_or t k 0

-- what a pool of version v is weighed by, whose own points stand in this table
abbrev pub points_of_table : ℕ → List ℕ → Points
points_of_table v l = points_of v (item_in l)

-- how many pairs the shortest of the eight can hold, and the shortest of the eight and the shuffle
unfoldable pub field_room : Fields → ℕ
field_room f =
    min (length f.ids)
    (min (length f.donor_blood)
    (min (length f.patient_blood)
    (min (length f.donor_age)
    (min (length f.patient_age)
    (min (length f.donor_antigens) (min (length f.patient_antigens) (length f.patient_antibodies)))))))

unfoldable pub room : Tables → ℕ
room t = min (field_room t.fields) (length t.shuffle)

-- ## The pool of version v in the first n entries

unfoldable pub pair_in : Fields → ℕ → Pair
pair_in f i =
    record {
      id = get_or f.ids i 0;
      donor_blood = get_or f.donor_blood i 0;
      patient_blood = get_or f.patient_blood i 0;
      donor_age = get_or f.donor_age i 0;
      patient_age = get_or f.patient_age i 0;
      donor_antigens = get_or f.donor_antigens i 0;
      patient_antigens = get_or f.patient_antigens i 0;
      patient_antibodies = get_or f.patient_antibodies i 0;
    }

unfoldable pub pool_in : ℕ → ℕ → Tables → Pool
pool_in v n t =
    record {
      version = v;
      points = table (point_count v) (item_in t.points);
      pairs = table n (pair_in t.fields);
      shuffle = table n (item_in t.shuffle);
    }

-- ## Filled: "the first N entries of each"; "what lies past them is unchanged". Of version 1 the points' table is wholly unchanged

unfoldable pub filled_fields : List Pair → Fields → Fields
filled_fields ps f =
    record {
      ids = filled (map (λ q. q.id) ps) f.ids;
      donor_blood = filled (map (λ q. q.donor_blood) ps) f.donor_blood;
      patient_blood = filled (map (λ q. q.patient_blood) ps) f.patient_blood;
      donor_age = filled (map (λ q. q.donor_age) ps) f.donor_age;
      patient_age = filled (map (λ q. q.patient_age) ps) f.patient_age;
      donor_antigens = filled (map (λ q. q.donor_antigens) ps) f.donor_antigens;
      patient_antigens = filled (map (λ q. q.patient_antigens) ps) f.patient_antigens;
      patient_antibodies = filled (map (λ q. q.patient_antibodies) ps) f.patient_antibodies;
    }

unfoldable pub filled_tables : Pool → Tables → Tables
filled_tables p t = tables (filled p.points t.points) (filled_fields p.pairs t.fields) (filled p.shuffle t.shuffle)
