-- What starting, registering and withdrawing answer, and what they leave in everything lent. Assumes nothing.
use Rattle.std.specs.Prelude.{ℕ, zero, suc, ◌+◌, ◌-◌, ◌*◌, cond, List, [], ◌∷◌, eqb, ltb, length}
use Rattle.laws.specs.Below.{table, any_below}
use Rattle.laws.specs.Lent.{filled, stored}
use Rattle.refusal.specs.Answer.{Outcome, unless}
use Rattle.pool.specs.Pool.{Pair}
use Rattle.pool.specs.Points.{Points}
use Rattle.pool.specs.Tables.{Fields, item_in, pair_in}
use Rattle.graph.specs.Graph.{Graph, graph, in_rows, filled_graph}
use Rattle.live.specs.Live.{Live, live, weighed_by, pair_of}
use Rattle.live.specs.Suitable.{with_numbers}
use Rattle.live.specs.Faults.{start_fault, register_fault, withdraw_fault}

-- ## Starting: "The pool's six points are given when it starts"

-- what is lent to it: the count and the table of the points
pub record Beginning : Type 0 where
  pub count : ℕ
  pub points : List ℕ

abbrev pub beginning : ℕ → List ℕ → Beginning
beginning n p = record { count = n; points = p }

-- the six, in document 01's order
unfoldable pub in_order : Points → List ℕ
in_order q =
    q.base ∷ q.no_mismatch ∷ q.few_mismatches ∷ q.some_mismatches ∷ q.equal_ages ∷ q.young_to_senior ∷ []

-- an empty pool, whatever the count was
unfoldable pub starting : Points → Beginning → Outcome (Unit {0}) Beginning
starting q b = unless (start_fault q (length b.points)) tt (beginning 0 (filled (in_order q) b.points)) b

-- ## Registering: "register a pair at the end"

-- the tables of the fields with a pair at n
unfoldable pub with_pair : ℕ → Pair → Fields → Fields
with_pair n p f =
    record {
      ids = stored n (p.id ∷ []) f.ids;
      donor_blood = stored n (p.donor_blood ∷ []) f.donor_blood;
      patient_blood = stored n (p.patient_blood ∷ []) f.patient_blood;
      donor_age = stored n (p.donor_age ∷ []) f.donor_age;
      patient_age = stored n (p.patient_age ∷ []) f.patient_age;
      donor_antigens = stored n (p.donor_antigens ∷ []) f.donor_antigens;
      patient_antigens = stored n (p.patient_antigens ∷ []) f.patient_antigens;
      patient_antibodies = stored n (p.patient_antibodies ∷ []) f.patient_antibodies;
    }

-- "Registering builds both tables anew", whatever stood in them, and the numbers are those of the M so built
unfoldable pub registered : Pair → Live → Live
registered p l =
    let n : ℕ = l.count + 1 in
    let f : Fields = with_pair l.count p l.fields in
    let g : Graph = filled_graph (weighed_by l) n (pair_in f) l.graph in
    live n l.points f g (with_numbers n g.compatibilities l.suitable)

unfoldable pub registering : Pair → Live → Outcome (Unit {0}) Live
registering p l = unless (register_fault p l) tt (registered p l) l

-- ## Withdrawing: "withdraw the first pair with an id, the later ones moving down by one"

-- the place of the first of n ids that is x; n where none is
unfoldable pub place_of : ℕ → (ℕ → ℕ) → ℕ → ℕ
place_of zero id x = 0
place_of (suc n) id x = cond (any_below n (λ j. eqb (id j) x)) (place_of n id x) (cond (eqb (id n) x) n (suc n))

-- what stands at i once the entry at a is out stood here before
unfoldable pub up : ℕ → ℕ → ℕ
up a i = cond (ltb i a) i (i + 1)

-- n entries of a table without that at a: one fewer, and "Past the new count's entries nothing changes"
unfoldable pub without_entry : ℕ → ℕ → List ℕ → List ℕ
without_entry a n t = filled (table (n - 1) (λ i. item_in t (up a i))) t

-- "takes out one row and one column": n rows of n without those at a
unfoldable pub without_row : ℕ → ℕ → List ℕ → List ℕ
without_row a n t = filled (in_rows (n - 1) (λ i j. item_in t (up a i * n + up a j))) t

unfoldable pub without_pair : ℕ → ℕ → Fields → Fields
without_pair a n f =
    record {
      ids = without_entry a n f.ids;
      donor_blood = without_entry a n f.donor_blood;
      patient_blood = without_entry a n f.patient_blood;
      donor_age = without_entry a n f.donor_age;
      patient_age = without_entry a n f.patient_age;
      donor_antigens = without_entry a n f.donor_antigens;
      patient_antigens = without_entry a n f.patient_antigens;
      patient_antibodies = without_entry a n f.patient_antibodies;
    }

-- pair a of the pool is out, and the numbers are those of the M that is left
unfoldable pub without_at : ℕ → Live → Live
without_at a l =
    let n : ℕ = l.count in
    let g : Graph = graph (without_row a n l.graph.compatibilities) (without_row a n l.graph.weights) in
    live (n - 1) l.points (without_pair a n l.fields) g (with_numbers (n - 1) g.compatibilities l.suitable)

unfoldable pub withdrawing : ℕ → Live → Outcome (Unit {0}) Live
withdrawing id l = unless (withdraw_fault id l) tt (without_at (place_of l.count (λ j. (pair_of l j).id) id) l) l
