-- "Compatibility and weight": W, by any points. Assumes nothing.
use Rattle.std.specs.Prelude.{ℕ, ◌+◌, not, ◌&&◌, cond, eqb, leb}
use Rattle.laws.specs.Below.{count_below}
use Rattle.pool.specs.Pool.{Pair}
use Rattle.pool.specs.Points.{Points}
use Rattle.donation.specs.Compatibility.{entries, has}

-- ## Points: document 01's, or "Points set by each registry"; `pool` has them

-- what is given where no step is, in every registry: "more gives 0", "else 0"
abbrev pub no_points : ℕ
no_points = 0

-- ## Mismatches

-- document 02, W-204: "in every table built a mismatch is a donor antigen that the patient does not have"; 01's count of both sides gave way to it
unfoldable pub mismatches : ℕ → ℕ → ℕ
mismatches donor patient = count_below entries (λ k. has donor k && not (has patient k))

-- "0 gives 400, 1 or 2 gives 250, 3 or 4 gives 100, more gives 0"; in 02, W-204, "The point steps remain"
unfoldable pub mismatch_points : Points → ℕ → ℕ
mismatch_points points count =
    cond (eqb count 0) points.no_mismatch
    (cond (leb count 2) points.few_mismatches (cond (leb count 4) points.some_mismatches no_points))

-- ## Ages: "0 young, 1 senior"

abbrev pub young : ℕ
young = 0

abbrev pub senior : ℕ
senior = 1

-- "Age: equal groups give 50; young donor and senior patient 30; else 0"
unfoldable pub age_points : Points → ℕ → ℕ → ℕ
age_points points donor patient =
    cond (eqb donor patient) points.equal_ages (cond (eqb donor young && eqb patient senior) points.young_to_senior no_points)

-- ## W

-- "W(i, j) for i different from j is 1,000 plus mismatch points plus age points, whatever M says; W(i, i) is 0"
unfoldable pub weight : Points → (ℕ → Pair) → ℕ → ℕ → ℕ
weight points pair i j =
    cond (eqb i j) 0
    (points.base
    + mismatch_points points (mismatches (pair i).donor_antigens (pair j).patient_antigens)
    + age_points points (pair i).donor_age (pair j).patient_age)
