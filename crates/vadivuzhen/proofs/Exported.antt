-- An exported call gives the numbers of what the library's call answered, so it keeps what that one promised. Assumes nothing.
use mathlib.Core.Path.{◌≡◌, refl, ap, ◌∙◌}
use mathlib.Core.List.{List}
use Prim.Native.Nat.{ℕ}
use Rattle.refusal.specs.Answer.{Answer, Outcome, outcome}
use Rattle.pool.specs.Tables.{Fields, Tables, fields, tables}
use Rattle.fields.specs.declared.Tables.{Tables as MutLent}
use Rattle.fields.specs.Lent.{tables_in}
use Rattle.pool.specs.Calls.{Head}
use Rattle.pool.specs.Promises.{ReadsRightly}
use Rattle.graph.specs.Graph.{Graph}
use Rattle.weighing.specs.Promises.{BuildsRightly}
use Rattle.pool.specs.Pool.{Pair}
use Rattle.pool.specs.Points.{Points}
use Rattle.live.specs.Live.{Live}
use Rattle.live.specs.Calls.{Beginning}
use Rattle.live.specs.Promises.{StartsRightly, RegistersRightly, WithdrawsRightly}
use Rattle.exchange.specs.Input.{Request}
use Rattle.exchange.specs.Planning.{Lent, Plan, planning}
use Rattle.exchange.specs.Promises.{PlansRightly}
use Rattle.numbers.specs.Numbers.{read_numbers, build_numbers, live_numbers, plan_numbers}
use Rattle.numbers.specs.Promises.{Numbered, NumberedAt0}
use Rattle.numbers.specs.declared.ReadAnswer.{ReadAnswer}
use Rattle.numbers.specs.declared.BuildAnswer.{BuildAnswer}
use Rattle.numbers.specs.declared.LiveAnswer.{LiveAnswer}
use Rattle.numbers.specs.declared.PlanAnswer.{PlanAnswer}

-- what an exported call ensures, for the numbers r and what is left of all that was lent, where `due` is due
abbrev Ensures : {Given Result Left : Type 0} → (Answer Result → Given) → (Answer Result → Type 0) → (Outcome Result Left → Type 0) → Given → Left → Outcome Result Left → Type 0
Ensures numbers Are Promised r left due =
    ((r ≡ numbers due.answer) × Are due.answer) × ((left ≡ due.lent) × Promised due)

pub kept : {Given Result Left : Type 0} (numbers : Answer Result → Given) (Are : Answer Result → Type 0) (Promised : Outcome Result Left → Type 0)
    {a : Answer Result} {r : Given} {left : Left} {due : Outcome Result Left}
    → r ≡ numbers a
    → Are a
    → outcome a left ≡ due
    → Promised (outcome a left)
    → Ensures numbers Are Promised r left due
kept numbers Are Promised e are w p = rw (← w) ((e, are), (refl, p))

pub kept_read : {b : List ℕ} {t left : Tables} {a : Answer Head} {r : ReadAnswer} {due : Outcome Head Tables}
    → r ≡ read_numbers a
    → Numbered a
    → outcome a left ≡ due
    → ReadsRightly b t (outcome a left)
    → Ensures read_numbers Numbered (ReadsRightly b t) r left due
kept_read {b} {t} = kept read_numbers Numbered (ReadsRightly b t)

-- the lent tables are left as the struct that was made of them has them
pub left_filled : (t : MutLent) {p a b c d e f g h s : List ℕ} {x : Answer Head} {due : Outcome Head Tables}
    → outcome x (tables_in t) ≡ due
    → p ≡ t.points.now
    → a ≡ t.ids.now
    → b ≡ t.donor_blood.now
    → c ≡ t.patient_blood.now
    → d ≡ t.donor_age.now
    → e ≡ t.patient_age.now
    → f ≡ t.donor_antigens.now
    → g ≡ t.patient_antigens.now
    → h ≡ t.patient_antibodies.now
    → s ≡ t.shuffle.now
    → tables p (fields a b c d e f g h) s ≡ due.lent
left_filled t w p a b c d e f g h s =
    (λ i. tables (p i) (fields (a i) (b i) (c i) (d i) (e i) (f i) (g i) (h i)) (s i)) ∙ ap (λ (o : Outcome Head Tables). o.lent) w

pub kept_built : {v n : ℕ} {l : List ℕ} {f : Fields} {old new : Graph} {a : Answer (Unit {0})} {r : BuildAnswer} {due : Outcome (Unit {0}) Graph}
    → r ≡ build_numbers a
    → NumberedAt0 a
    → outcome a new ≡ due
    → BuildsRightly v n l f old (outcome a new)
    → Ensures build_numbers NumberedAt0 (BuildsRightly v n l f old) r new due
kept_built {v} {n} {l} {f} {old} = kept build_numbers NumberedAt0 (BuildsRightly v n l f old)

pub kept_plan : {q : Request} {t left : Lent} {a : Answer Plan} {r : PlanAnswer}
    → r ≡ plan_numbers a
    → NumberedAt0 a
    → PlansRightly q t (outcome a left)
    → Ensures plan_numbers NumberedAt0 (PlansRightly q t) r left (planning q t)
kept_plan {q} {t} e are w = kept plan_numbers NumberedAt0 (PlansRightly q t) e are w.equal w

pub kept_started : {q : Points} {old new : Beginning} {a : Answer (Unit {0})} {r : LiveAnswer} {due : Outcome (Unit {0}) Beginning}
    → r ≡ live_numbers a
    → NumberedAt0 a
    → outcome a new ≡ due
    → StartsRightly q old (outcome a new)
    → Ensures live_numbers NumberedAt0 (StartsRightly q old) r new due
kept_started {q} {old} = kept live_numbers NumberedAt0 (StartsRightly q old)

pub kept_registered : {p : Pair} {old new : Live} {a : Answer (Unit {0})} {r : LiveAnswer} {due : Outcome (Unit {0}) Live}
    → r ≡ live_numbers a
    → NumberedAt0 a
    → outcome a new ≡ due
    → RegistersRightly p old (outcome a new)
    → Ensures live_numbers NumberedAt0 (RegistersRightly p old) r new due
kept_registered {p} {old} = kept live_numbers NumberedAt0 (RegistersRightly p old)

pub kept_withdrawn : {id : ℕ} {old new : Live} {a : Answer (Unit {0})} {r : LiveAnswer} {due : Outcome (Unit {0}) Live}
    → r ≡ live_numbers a
    → NumberedAt0 a
    → outcome a new ≡ due
    → WithdrawsRightly id old (outcome a new)
    → Ensures live_numbers NumberedAt0 (WithdrawsRightly id old) r new due
kept_withdrawn {id} {old} = kept live_numbers NumberedAt0 (WithdrawsRightly id old)
