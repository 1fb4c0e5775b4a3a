-- Points: what the edges of a pool are weighed by. Document 01's, and document 02's W-205, "Points set by each registry". Assumes nothing.
use Rattle.std.specs.Prelude.{ℕ, ◌+◌, max, Bool, cond, eqb}
use Rattle.laws.specs.Below.{either}

-- the point values, by name
pub record Points : Type 0 where
  pub base : ℕ
  -- 0 mismatches, 1 or 2, 3 or 4
  pub no_mismatch : ℕ
  pub few_mismatches : ℕ
  pub some_mismatches : ℕ
  -- equal age groups, a young donor and a senior patient
  pub equal_ages : ℕ
  pub young_to_senior : ℕ

-- document 01's. "The point values are named constants of the weighing, used nowhere as bare numbers": the numbers stand here and, in the code,
-- as associated constants of the type `Weighing`, which the contracts hold to these
unfoldable pub document_points : Points
document_points =
    record {
      base = 1000;
      no_mismatch = 400;
      few_mismatches = 250;
      some_mismatches = 100;
      equal_ages = 50;
      young_to_senior = 30;
    }

-- ## A registry's own: "base, three mismatch steps, two age steps, in document 01's order"

abbrev pub registry_points : ℕ
registry_points = 6

-- by six numbers in that order
abbrev pub points_by : (ℕ → ℕ) → Points
points_by p = record { base = p 0; no_mismatch = p 1; few_mismatches = p 2; some_mismatches = p 3; equal_ages = p 4; young_to_senior = p 5 }

-- ## Versions 1 and 2

unfoldable pub known_version : ℕ → Bool
known_version v = either (eqb v 1) (eqb v 2)

-- version 2 has points of its own; "A version 1 pool has no points"
unfoldable pub has_points : ℕ → Bool
has_points v = eqb v 2

-- how many
unfoldable pub point_count : ℕ → ℕ
point_count v = cond (has_points v) registry_points 0

-- what a pool of version v, whose own points are the numbers p, is weighed by: "Version 1 sheets keep the points of document 01"
unfoldable pub points_of : ℕ → (ℕ → ℕ) → Points
points_of v p = cond (has_points v) (points_by p) document_points

-- "base, largest mismatch step and larger age step together": no edge weighs more
unfoldable pub heaviest : Points → ℕ
heaviest q = q.base + max q.no_mismatch (max q.few_mismatches q.some_mismatches) + max q.equal_ages q.young_to_senior
