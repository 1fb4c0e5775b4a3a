-- The floor (document 02, W-202), said a second time: what planning was before it, what of that W-209 turns back, and what a higher floor takes from a
-- plan. Assumes nothing.
use Rattle.std.specs.Prelude.{ℕ, ◌≤◌, ◌<◌, ◌≡◌, List, ◌++◌, map, ltb, length, get_or}
use Rattle.laws.specs.Lent.{filled}
use Rattle.refusal.specs.Fault.{Fault, refuse, ◌then◌}
use Rattle.refusal.specs.Answer.{finished, refused, Outcome, outcome, unless}
use Rattle.pool.specs.Faults.{shuffle_fault}
use Rattle.greedy.specs.Tally.{tally}
use Rattle.greedy.specs.Rounds.{Left}
use Rattle.greedy.specs.Floorless.{rounds}
use Rattle.exchange.specs.Subsets.{up_to_three, order, entry, weigh, subset_weights, evaluation_tally}
use Rattle.exchange.specs.Input.{request}
use Rattle.exchange.specs.Resolution.{resolved, record_of, recipient_table, donor_table, total}
use Rattle.exchange.specs.Planning as Planning
use Rattle.exchange.specs.Planning.{Lent, lent, Plan, plan, round_count, Lengths, lengths_of, short_to_read, short_to_fill, table_fault}
use Rattle.exchange.specs.Faultless.{WeightyTables}
use Rattle.exchange.specs.Rivals.{planned, Each}

-- ## "Floor 0 gives the plans of today": document 01's planning, which has no floor and no refusal 13 or 17

-- "planning checks 4, 9, 8, 10"
unfoldable pub plan_fault : ℕ → List ℕ → List ℕ → List ℕ → Lengths → Fault
plan_fault n M W s z =
    refuse 4 0 (ltb 200 n)
    then short_to_read n (length M) (length W) (length s)
    then short_to_fill (up_to_three n) z
    then shuffle_fault 0 n (λ j. get_or s j 0)
    then table_fault n M

-- evaluation, then all rounds; in each, "if that weight is 0 the choice is n, meaning none"
unfoldable pub left_by : ℕ → (ℕ → ℕ → ℕ) → (ℕ → ℕ → ℕ) → List ℕ → Left
left_by n m w s =
    rounds (round_count n) (order (up_to_three n)) (subset_weights (up_to_three n) m w s) (evaluation_tally (order (up_to_three n)) (tally 0 0 0))

unfoldable pub planning : ℕ → List ℕ → List ℕ → List ℕ → Lent → Outcome Plan Lent
planning n M W s t =
    let r : Left = left_by n (entry M n) (entry W n) s in
    let cs : List (List ℕ) = resolved (entry M n) (entry W n) s (order (up_to_three n)) r.choices in
    unless (plan_fault n M W s (lengths_of t)) (plan (total (entry M n) (entry W n) cs) (length cs) r.tally)
    (lent (filled r.weights t.weights) (filled r.choices t.choices) (filled (donor_table n cs) t.donors)
    (filled (recipient_table n cs) t.recipients) (filled (map (record_of n) cs) t.records)) t

-- planning with floor 0, beside it
pub record Today (n : ℕ) (M W s : List ℕ) (t : Lent) : Type 0 where
  -- of "the tables that remain" (document 02, W-209) every answer is the same, and so is all that is left
  pub same : WeightyTables n M W → Planning.planning (request n 0 M W s) t ≡ planning n M W s t
  -- of the others, those that were refused are refused alike
  pub alike : (k o : ℕ) → (planning n M W s t).answer ≡ refused k o → Planning.planning (request n 0 M W s) t ≡ planning n M W s t
  -- and "such tables used to be planned": 17, and nothing changes
  pub turned : (p : Plan) → (planning n M W s t).answer ≡ finished p → (WeightyTables n M W → ⊥) → Planning.planning (request n 0 M W s) t ≡ outcome (refused 17 0) t

abbrev pub FloorZeroIsToday : Type 0
FloorZeroIsToday = (n : ℕ) (M W s : List ℕ) (t : Lent) → Today n M W s t

-- ## A higher floor cuts off the end of a plan

-- the cycles planned with the floor f are the first ones planned with a lower floor, just those above f
pub record CutOff (f : ℕ) (weight : List ℕ → ℕ) (higher lower : List (List ℕ)) : Type 0 where
  pub rest : List (List ℕ)
  pub first : lower ≡ higher ++ rest
  pub above : Each (λ (c : List ℕ). f < weight c) higher
  pub light : Each (λ (c : List ℕ). weight c ≤ f) rest

-- of two plans made of the same pool, with the floors e and f
abbrev pub FloorCutsOff : Type 0
FloorCutsOff =
    (n e f : ℕ) (M W s : List ℕ) (t u : Lent) (p r : Plan)
    → e ≤ f
    → (Planning.planning (request n f M W s) t).answer ≡ finished p
    → (Planning.planning (request n e M W s) u).answer ≡ finished r
    → CutOff f (weigh (entry M n) (entry W n)) (planned n p (Planning.planning (request n f M W s) t).lent)
    (planned n r (Planning.planning (request n e M W s) u).lent)
