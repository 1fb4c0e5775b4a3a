-- What is promised of building, as statements: the proofs are in `proofs/`, and the contract of `build` carries `BuildsRightly`. Assumes nothing.
use Rattle.std.specs.Prelude.{ℕ, ◌+◌, ◌*◌, ◌≤◌, ◌<◌, ◌≡◌, List, length, get_or}
use Rattle.refusal.specs.Answer.{finished, refused, Outcome}
use Rattle.pool.specs.Points.{Points, heaviest}
use Rattle.pool.specs.Tables.{Fields, pair_in, points_of_table}
use Rattle.pool.specs.Faultless.{KnownVersion, SoundPoints, InRange, Unlike, FieldsHold, PointsHold, PairsFault}
use Rattle.donation.specs.Compatibility.{compatibility}
use Rattle.donation.specs.Weight.{mismatch_points, age_points, weight}
use Rattle.donation.specs.Promises.{SameOf, CountsMismatches}
use Rattle.graph.specs.Graph.{Graph}
use Rattle.weighing.specs.Building.{building}

-- ## What has none of the faults, and what each fault is, said without building

-- a pool of version v in the first n entries of the tables of the fields, with the points in the table l
pub record FaultlessFields (v n : ℕ) (l : List ℕ) (f : Fields) : Type 0 where
  pub version : KnownVersion v
  pub few : n ≤ 200
  pub hold : FieldsHold n f
  pub held : PointsHold v l
  pub points : SoundPoints (points_of_table v l)
  pub in_range : (i : ℕ) → i < n → InRange (pair_in f i)
  pub unlike : Unlike n (pair_in f)

-- n rows of n fit both tables
pub record Fit (n : ℕ) (g : Graph) : Type 0 where
  pub compatibilities : n * n ≤ length g.compatibilities
  pub weights : n * n ≤ length g.weights

-- fault k of building: one of the pairs or of what is looked at before them, or 9 of the tables to be filled, which is looked for after them
pub data BuildFault (v n : ℕ) (l : List ℕ) (f : Fields) (g : Graph) : ℕ → Type 0 where
  pairs : (k : ℕ) → PairsFault v n (FieldsHold n f × PointsHold v l) (points_of_table v l) (pair_in f) k → BuildFault v n l f g k
  tables_too_short : FaultlessFields v n l f → (Fit n g → ⊥) → BuildFault v n l f g 9

-- ## What is built, by points q: "the weighing is shown over any six points that 14 lets pass rather than for each registry"

-- the entry of row i and column j
abbrev pub entry_at : List ℕ → ℕ → ℕ → ℕ → ℕ
entry_at t n i j = get_or t (i * n + j) 0

-- row i holds donor i, column j patient j
pub record Entries (q : Points) (n : ℕ) (f : Fields) (g : Graph) : Type 0 where
  pub compatibilities : (i j : ℕ) → i < n → j < n → entry_at g.compatibilities n i j ≡ compatibility (pair_in f) i j
  pub weights : (i j : ℕ) → i < n → j < n → entry_at g.weights n i j ≡ weight q (pair_in f) i j

-- document 02's mismatches, in the table itself: whatever counts the donor antigens that a patient does not have, W(i, j) has the points of that count;
-- and in donor i's row patients of one age group who have the same of donor i's antigens weigh the same, whatever else they have
pub record DonorsSide (q : Points) (n : ℕ) (f : Fields) (g : Graph) : Type 0 where
  pub counted : (count : ℕ → ℕ → ℕ) → CountsMismatches count → (i j : ℕ) → i < n → j < n → (i ≡ j → ⊥)
      → entry_at g.weights n i j
      ≡ q.base
      + mismatch_points q (count (pair_in f i).donor_antigens (pair_in f j).patient_antigens)
      + age_points q (pair_in f i).donor_age (pair_in f j).patient_age
  pub alike : (i j k : ℕ) → i < n → j < n → k < n → (i ≡ j → ⊥) → (i ≡ k → ⊥)
      → SameOf (pair_in f i).donor_antigens (pair_in f j).patient_antigens (pair_in f k).patient_antigens
      → (pair_in f j).patient_age ≡ (pair_in f k).patient_age → entry_at g.weights n i j ≡ entry_at g.weights n i k

-- what can be planned: M is 0 or 1, a pair's own M and W are 0, and every other W is at least the base and at most "base, largest mismatch step and larger
-- age step together" (by document 01's points 1,000 to 1,450), which fits 16 bits; no present edge is weightless
pub record Plannable (q : Points) (n : ℕ) (g : Graph) : Type 0 where
  pub zero_or_one : (i j : ℕ) → i < n → j < n → entry_at g.compatibilities n i j ≤ 1
  pub own_compatibility : (i : ℕ) → i < n → entry_at g.compatibilities n i i ≡ 0
  pub own_weight : (i : ℕ) → i < n → entry_at g.weights n i i ≡ 0
  pub least : (i j : ℕ) → i < n → j < n → (i ≡ j → ⊥) → q.base ≤ entry_at g.weights n i j
  pub most : (i j : ℕ) → i < n → j < n → (i ≡ j → ⊥) → entry_at g.weights n i j ≤ heaviest q
  pub fits : heaviest q ≤ 65535
  pub none_weightless : (i j : ℕ) → i < n → j < n → entry_at g.compatibilities n i j ≡ 1 → 0 < entry_at g.weights n i j

-- of the answer and what is left: "Every .. pool with none of the listed faults is accepted", and no other; a refusal names a fault that is there, with
-- place 0, and "leaves all lent memory unchanged"; what is built has the documents' entries by the points of the pool's version, weighs mismatches on the
-- donor's side, and can be planned
pub record BuildsRightly (v n : ℕ) (l : List ℕ) (f : Fields) (old : Graph) (o : Outcome (Unit {0}) Graph) : Type 0 where
  pub accepts : FaultlessFields v n l f → Fit n old → o.answer ≡ finished tt
  pub accepted : o.answer ≡ finished tt → FaultlessFields v n l f × Fit n old
  pub refuses : (k place : ℕ) → o.answer ≡ refused k place → (place ≡ 0) × BuildFault v n l f old k × (o.lent ≡ old)
  pub built : o.answer ≡ finished tt → Entries (points_of_table v l) n f o.lent
  pub donors_side : o.answer ≡ finished tt → DonorsSide (points_of_table v l) n f o.lent
  pub plannable : o.answer ≡ finished tt → Plannable (points_of_table v l) n o.lent
  -- "A version 1 pool has no points, and lent ones are neither read nor changed": any others, in a table of any length, give this answer and these tables
  pub unread : v ≡ 1 → (other : List ℕ) → o ≡ building v n other f old
