-- A list of calls, in numbers: document 01's two pairs and one more, by a registry's own points, in tables that held something before. Assumes nothing.
use Rattle.std.specs.Prelude.{ℕ, ◌≡◌, List, [], ◌∷◌, ◌++◌, map, replicate}
use Rattle.refusal.specs.Answer.{finished, refused, outcome}
use Rattle.pool.specs.Pool.{Pair}
use Rattle.pool.specs.Points.{points_by}
use Rattle.pool.specs.Tables.{fields, item_in}
use Rattle.graph.specs.Graph.{graph}
use Rattle.live.specs.Live.{Live, live}
use Rattle.live.specs.Calls.{beginning, starting, registering, withdrawing}
use Rattle.live.specs.Lists.{Call, after, trace, held}

-- an id, the donor's blood, age and antigens, and the patient's blood and age: a patient with no antigens and no antibodies
abbrev pub example_pair : ℕ → ℕ → ℕ → ℕ → ℕ → ℕ → Pair
example_pair id blood age antigens patient_blood patient_age =
    record {
      id = id;
      donor_blood = blood;
      patient_blood = patient_blood;
      donor_age = age;
      patient_age = patient_age;
      donor_antigens = antigens;
      patient_antigens = 0;
      patient_antibodies = 0;
    }

-- no pairs, in tables for four that hold something, as a start leaves the count and the points, whose table has seven entries. The points: base 2,000; 500 for no mismatch, 300 for 1 or 2, 70 for 3 or 4; 40 for equal ages, 9 from young to senior
abbrev pub example_room : Live
example_room =
    live 0 (2000 ∷ 500 ∷ 300 ∷ 70 ∷ 40 ∷ 9 ∷ 5 ∷ [])
    (fields (replicate 4 9) (replicate 4 9) (replicate 4 9) (replicate 4 9) (replicate 4 9) (replicate 4 9) (replicate 4 9) (replicate 4 9))
    (graph (replicate 16 7) (replicate 16 77)) (replicate 4 9)

-- 11 gives A to B and 12 B to A, both young; 13 gives O to O, from a senior donor with three antigens to a senior patient
abbrev pub three_calls : List Call
three_calls =
    Call.register (example_pair 11 1 0 0 2 0) ∷ Call.register (example_pair 12 2 0 0 1 0) ∷ Call.register (example_pair 13 0 1 7 0 1) ∷ []

abbrev pub four_calls : List Call
four_calls = three_calls ++ (Call.withdraw 12 ∷ [])

abbrev pub seven_calls : List Call
seven_calls =
    four_calls ++ (Call.withdraw 12 ∷ Call.register (example_pair 11 0 0 0 0 0) ∷ Call.register (example_pair 12 2 0 0 1 0) ∷ [])

-- three rows of three; without the second row and column two of two, and past them what stood there: the rest of the three of three
pub record LiveRun : Type 0 where
  pub start : starting (points_by (item_in example_room.points)) (beginning 3 (replicate 7 5)) ≡ outcome (finished tt) (beginning 0 example_room.points)
  pub three : (after three_calls example_room).graph
      ≡ graph (0 ∷ 1 ∷ 0 ∷ 1 ∷ 0 ∷ 0 ∷ 1 ∷ 1 ∷ 0 ∷ replicate 7 7) (0 ∷ 2540 ∷ 2509 ∷ 2540 ∷ 0 ∷ 2509 ∷ 2070 ∷ 2070 ∷ 0 ∷ replicate 7 77)
  pub two : (after four_calls example_room).graph
      ≡ graph (0 ∷ 0 ∷ 1 ∷ 0 ∷ 0 ∷ 0 ∷ 1 ∷ 1 ∷ 0 ∷ replicate 7 7) (0 ∷ 2509 ∷ 2070 ∷ 0 ∷ 0 ∷ 2509 ∷ 2070 ∷ 2070 ∷ 0 ∷ replicate 7 77)
  pub moved : (after four_calls example_room).fields.ids ≡ 11 ∷ 13 ∷ 13 ∷ 9 ∷ []
  pub answers : map (λ s. s.answer) (trace seven_calls example_room)
      ≡ finished tt ∷ finished tt ∷ finished tt ∷ finished tt ∷ refused 16 0 ∷ refused 7 0 ∷ finished tt ∷ []
  pub ids : (after seven_calls example_room).fields.ids ≡ 11 ∷ 13 ∷ 12 ∷ 9 ∷ []
  pub holds : map (λ q. q.id) (held (trace seven_calls example_room)) ≡ 11 ∷ 13 ∷ 12 ∷ []

-- ## "How many donors suit each patient"

-- the three pairs, with an M that a caller put in and these numbers: in M's columns stand 1, 3 and 1 ones, and a 5 and a 2 that are none; in its rows 1, 2 and 2
abbrev pub by_hand : ℕ → ℕ → ℕ → Live
by_hand a b c =
    let l : Live = after three_calls example_room in
    live 3 l.points l.fields (graph (0 ∷ 1 ∷ 5 ∷ 1 ∷ 1 ∷ 2 ∷ 0 ∷ 1 ∷ 1 ∷ replicate 7 7) l.graph.weights) (a ∷ b ∷ c ∷ 9 ∷ [])

-- 14 gives O to AB: all three suit its patient, and it suits all three
abbrev pub fourteen : Pair
fourteen = example_pair 14 0 0 0 3 0

-- numbers one too high and one too low, in each place; then those of the rows, and those that count what is above 0
abbrev pub wrong_numbers : List Live
wrong_numbers =
    by_hand 2 3 1
    ∷ by_hand 0 3 1
    ∷ by_hand 1 4 1
    ∷ by_hand 1 2 1
    ∷ by_hand 1 3 2
    ∷ by_hand 1 3 0
    ∷ by_hand 1 2 2
    ∷ by_hand 1 3 3
    ∷ []

-- from call to call; then with M put in by hand: a withdrawal leaves 0 5 and 0 1 of it, and a registration counts in the M that it builds
pub record NumbersRun : Type 0 where
  pub three : (after three_calls example_room).suitable ≡ 2 ∷ 2 ∷ 0 ∷ 9 ∷ []
  pub two : (after four_calls example_room).suitable ≡ 1 ∷ 0 ∷ 0 ∷ 9 ∷ []
  pub again : (after seven_calls example_room).suitable ≡ 2 ∷ 0 ∷ 2 ∷ 9 ∷ []
  pub withdrawn : (withdrawing 12 (by_hand 1 3 1)).lent.suitable ≡ 0 ∷ 1 ∷ 1 ∷ 9 ∷ []
  pub registered : (registering fourteen (by_hand 1 3 1)).lent.suitable ≡ 3 ∷ 3 ∷ 1 ∷ 3 ∷ []
  pub registers : map (λ l. (registering fourteen l).answer) wrong_numbers ≡ replicate 8 (refused 10 0)
  pub withdraws : map (λ l. (withdrawing 12 l).answer) wrong_numbers ≡ replicate 8 (refused 10 0)
