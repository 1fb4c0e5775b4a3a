-- "Writer and printout": the printed plan and the printed refusal, as bytes in ASCII. Assumes nothing.
use Rattle.std.specs.Prelude.{ℕ, List, [], ◌∷◌, ◌++◌}
use Rattle.text.specs.Text.{bytes_of, number_line}
use Rattle.partners.specs.Pairs.{pair_lines}

-- ## The printed plan

-- what is printed of a plan: N, the numbers of the result, and the first N entries of three tables
pub record PrintedPlan : Type 0 where
  pub pairs : ℕ
  pub cycles : ℕ
  pub weight : ℕ
  pub ids : List ℕ
  pub donors : List ℕ
  pub recipients : List ℕ
  pub comparisons : ℕ
  pub products : ℕ
  pub rounds : ℕ

abbrev pub printed_plan : ℕ → ℕ → ℕ → List ℕ → List ℕ → List ℕ → ℕ → ℕ → ℕ → PrintedPlan
printed_plan a b c d e f g h i =
    record {
      pairs = a;
      cycles = b;
      weight = c;
      ids = d;
      donors = e;
      recipients = f;
      comparisons = g;
      products = h;
      rounds = i;
    }

-- "`PLAN`, N, cycles, weight; for each pair [..]; `COUNTS`, comparisons, products, rounds"
unfoldable pub plan_text : PrintedPlan → List ℕ
plan_text p =
    number_line (bytes_of "PLAN") (p.pairs ∷ p.cycles ∷ p.weight ∷ [])
    ++ (pair_lines p.pairs p.ids p.donors p.recipients
    ++ number_line (bytes_of "COUNTS") (p.comparisons ∷ p.products ∷ p.rounds ∷ []))

-- ## The printed refusal

-- "`REFUSED` with number and place"
unfoldable pub refusal_text : ℕ → ℕ → List ℕ
refusal_text number place = number_line (bytes_of "REFUSED") (number ∷ place ∷ [])
