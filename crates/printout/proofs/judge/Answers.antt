-- `printout::judge` meets its contract: each answer is the first fault, or none. Assumes nothing.
use Prim.Native.Nat.{ℕ, ◌+◌}
use mathlib.Core.Path.{◌≡◌, sym, ap, ◌∙◌}
use mathlib.Core.Bool.{Bool}
use native.Mathlib.Omega.{arith}
use borrow.Author.Tests.{leb-true, leb-false}
use lib.Dec.{leb}
use lib.ListN.{length}
use Rattle.printout.specs.Printed.{PrintedPlan, printed_plan, plan_text}
use Rattle.printout.proofs.Plans.{head_line, lines_of, counts_line, length-plan}
use Rattle.printout.proofs.Answered.{judged_ids, judged_donors, judged_recipients, judged_fits, judged_long}
use Rattle.printout.proofs.judge.Goals as goal

-- the text's length, as it was added up, and compared with the room
compared : (p : PrintedPlan) (room head counts : ℕ) {fits : Bool} → head ≡ length (head_line p) → counts ≡ length (counts_line p)
    → fits ≡ leb (head + counts + length (lines_of p)) room → leb (length (plan_text p)) room ≡ fits
compared p room head counts h k f =
    let long : ℕ = head + counts + length (lines_of p) in
    let e : length (plan_text p) ≡ long = omega (arith, length-plan p) in
    ap (λ (k : ℕ). leb k room) e ∙ sym f

pub returns-then-ids-n : goal.returns-then-ids-n
returns-then-ids-n c =
    let p : PrintedPlan =
    printed_plan c.args.n c.args.cycles c.args.weight c.args.ids.now c.args.donors.now c.args.recipients.now c.args.comparisons
    c.args.products c.args.rounds
    in
    judged_ids c.args.room p c.if-ids-n.true

pub returns-then-donors-n : goal.returns-then-donors-n
returns-then-donors-n c =
    let p : PrintedPlan =
    printed_plan c.args.n c.args.cycles c.args.weight c.args.ids.now c.args.donors.now c.args.recipients.now c.args.comparisons
    c.args.products c.args.rounds
    in
    judged_donors c.args.room p c.if-ids-n.false c.if-donors-n.true

pub returns-then-recipients-n : goal.returns-then-recipients-n
returns-then-recipients-n c =
    let p : PrintedPlan =
    printed_plan c.args.n c.args.cycles c.args.weight c.args.ids.now c.args.donors.now c.args.recipients.now c.args.comparisons
    c.args.products c.args.rounds
    in
    judged_recipients c.args.room p c.if-ids-n.false c.if-donors-n.false c.if-recipients-n.true

pub returns-then-pairs_fit : goal.returns-then-pairs_fit
returns-then-pairs_fit c =
    let p : PrintedPlan =
    printed_plan c.args.n c.args.cycles c.args.weight c.args.ids.now c.args.donors.now c.args.recipients.now c.args.comparisons
    c.args.products c.args.rounds
    in
    judged_fits c.args.room p
    (record { ids = c.if-ids-n.false; donors = c.if-donors-n.false; recipients = c.if-recipients-n.false })
    (leb-true _ c.args.room
    (compared p c.args.room c.line_length.result c.line_length-2.result c.line_length.ensures.0 c.line_length-2.ensures.0 c.pairs_fit.ensures
    ∙ c.if-pairs_fit.true))

pub returns-else-pairs_fit : goal.returns-else-pairs_fit
returns-else-pairs_fit c =
    let p : PrintedPlan =
    printed_plan c.args.n c.args.cycles c.args.weight c.args.ids.now c.args.donors.now c.args.recipients.now c.args.comparisons
    c.args.products c.args.rounds
    in
    judged_long c.args.room p
    (record { ids = c.if-ids-n.false; donors = c.if-donors-n.false; recipients = c.if-recipients-n.false })
    (leb-false _ c.args.room
    (compared p c.args.room c.line_length.result c.line_length-2.result c.line_length.ensures.0 c.line_length-2.ensures.0 c.pairs_fit.ensures
    ∙ c.if-pairs_fit.false))
