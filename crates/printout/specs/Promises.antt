-- What is promised of the text and of the calls, as statements: the proofs are in `proofs/`, and the contracts of `print_plan`, `print_refused`
-- and `print_refusal` carry `PrintsPlan`, `PrintsRefused` and `PrintsRefusal`. Assumes nothing.
use Rattle.std.specs.Prelude.{ℕ, ◌+◌, ◌*◌, ◌≤◌, ◌<◌, ◌≡◌, List, [], ◌∷◌, length, get_or}
use Rattle.refusal.specs.Answer.{finished, refused, Outcome}
use Rattle.text.specs.Text.{bytes_of}
use Rattle.partners.specs.Preconditions.{PlanTablesHold}
use Rattle.printout.specs.Printed.{PrintedPlan, printed_plan, plan_text, refusal_text}

-- ## Examples

-- document 01's: 11 and 12 give to each other
abbrev pub ExamplePrinted : Type 0
ExamplePrinted =
    plan_text (printed_plan 2 1 2900 (11 ∷ 12 ∷ []) (1 ∷ 0 ∷ []) (1 ∷ 0 ∷ []) 1 6 1) ≡ bytes_of "PLAN 2 1 2900\n11 12 12\n12 11 11\nCOUNTS 1 6 1\n"

-- nobody gives: pool k4 of document 01, with the same ids
abbrev pub NonePrinted : Type 0
NonePrinted = plan_text (printed_plan 2 0 0 (11 ∷ 12 ∷ []) (2 ∷ 2 ∷ []) (2 ∷ 2 ∷ []) 1 6 1) ≡ bytes_of "PLAN 2 0 0\n11 - -\n12 - -\nCOUNTS 1 6 1\n"

abbrev pub RefusalPrinted : Type 0
RefusalPrinted = refusal_text 7 42 ≡ bytes_of "REFUSED 7 42\n"

-- ## Buffers that always suffice

-- what the types of the arguments give: numbers of 64 bits, and ids of 32
pub record PlanTyped (p : PrintedPlan) : Type 0 where
  pub pairs : p.pairs < 18446744073709551616
  pub cycles : p.cycles < 18446744073709551616
  pub weight : p.weight < 18446744073709551616
  pub ids : (i : ℕ) → get_or p.ids i 0 < 4294967296
  pub comparisons : p.comparisons < 18446744073709551616
  pub products : p.products < 18446744073709551616
  pub rounds : p.rounds < 18446744073709551616

-- bytes for any plan of n pairs: 1,458 for 40
abbrev pub plan_room : ℕ → ℕ
plan_room n = 138 + 33 * n

-- and for any refusal, whose number has one byte
abbrev pub refusal_room : ℕ
refusal_room = 33

-- and for `REFUSED` with any number of 32 bits
abbrev pub refused_room : ℕ
refused_room = 40

abbrev pub PlanFits : Type 0
PlanFits = (p : PrintedPlan) → PlanTyped p → length (plan_text p) ≤ plan_room p.pairs

abbrev pub RefusalFits : Type 0
RefusalFits = (number place : ℕ) → number < 256 → place < 18446744073709551616 → length (refusal_text number place) ≤ refusal_room

abbrev pub RefusedFits : Type 0
RefusedFits = (number place : ℕ) → number < 4294967296 → place < 18446744073709551616 → length (refusal_text number place) ≤ refused_room

-- an answer of printing a text into the buffer `out`, and what is left: surely its length, where `sure` holds; no length is above the buffer's; and a
-- refusal is 9 with place 0, and "leaves all lent memory unchanged"
pub record Prints (sure : Type 0) (text out : List ℕ) (o : Outcome ℕ (List ℕ)) : Type 0 where
  pub prints : sure → o.answer ≡ finished (length text)
  pub within : (n : ℕ) → o.answer ≡ finished n → n ≤ length out
  pub refuses : (k place : ℕ) → o.answer ≡ refused k place → (k ≡ 9) × (place ≡ 0) × (o.lent ≡ out)

-- a plan is surely printed where its tables hold its pairs and the buffer has as many bytes
abbrev pub PrintsPlan : PrintedPlan → List ℕ → Outcome ℕ (List ℕ) → Type 0
PrintsPlan p out =
    Prints (PlanTablesHold p.pairs p.ids p.donors p.recipients × (plan_room p.pairs ≤ length out)) (plan_text p) out

abbrev pub PrintsRefused : ℕ → ℕ → List ℕ → Outcome ℕ (List ℕ) → Type 0
PrintsRefused number place out = Prints (refused_room ≤ length out) (refusal_text number place) out

abbrev pub PrintsRefusal : ℕ → ℕ → List ℕ → Outcome ℕ (List ℕ) → Type 0
PrintsRefusal number place out = Prints (refusal_room ≤ length out) (refusal_text number place) out
