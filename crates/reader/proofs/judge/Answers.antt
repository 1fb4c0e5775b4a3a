-- `reader::judge` meets its contract. Assumes nothing.
use mathlib.Core.Path.{◌≡◌, sym, ap, ap₂, ◌∙◌}
use lib.ListN.{length}
use Rattle.refusal.specs.Answer.{finished}
use Rattle.refusal.specs.Fault.{none}
use Rattle.refusal.specs.Number.{found_fault}
use Rattle.refusal.proofs.Faults.{nothing_none, found_fault_lem, handed_on}
use Rattle.pool.specs.Sheet.{version_in, pairs_in}
use Rattle.pool.specs.Tables.{Tables, room}
use Rattle.pool.specs.Faults.{sheet_fault, tables_fault}
use Rattle.pool.specs.Calls.{head}
use Rattle.pool.proofs.Reading.{sheet_passed}
use Rattle.reader.specs.Answers.{answer_of}
use Rattle.reader.proofs.Answered.{answers_fault, answers_short, answers_pairs, same_tables}
use Rattle.reader.proofs.judge.Goals as goal

pub version_in-version-requires : goal.version_in-version-requires
version_in-version-requires c =
    let passed : sheet_fault c.args.b.now ≡ none =
    nothing_none _ c.check.ensures c.in_ok-check.was in
    (sheet_passed _ passed).head.field.whole

pub pairs_in-pairs-requires : goal.pairs_in-pairs-requires
pairs_in-pairs-requires c =
    let passed : sheet_fault c.args.b.now ≡ none =
    nothing_none _ c.check.ensures c.in_ok-check.was in
    (sheet_passed _ passed).head.field.whole

pub returns-in_err-check : goal.returns-in_err-check
unfolding answer_of
returns-in_err-check c = rw (handed_on _ _ c.from_residual.ensures) (λ t e f. answers_fault _ t (found_fault_lem _ c.check.ensures _ c.in_err-check.was))

pub returns-in_err-at : goal.returns-in_err-at
unfolding answer_of
returns-in_err-at c =
    let found : (t : Tables) → room t ≡ c.args.space → length t.points ≡ c.args.points → found_fault c.at.result ≡ tables_fault (version_in c.args.b.now) (pairs_in c.args.b.now) (room t) t.points =
    λ t e f.
    c.at.ensures
    ∙ c.tables.ensures t.points f
    ∙ same_tables c.version_in-version.ensures c.pairs_in-pairs.ensures (sym e) t.points in
    let passed : sheet_fault c.args.b.now ≡ none =
    nothing_none _ c.check.ensures c.in_ok-check.was in
    rw (handed_on _ _ c.from_residual-in_err-at.ensures) (λ t e f. answers_short _ t passed (found_fault_lem _ (found t e f) _ c.in_err-at.was))

pub returns : goal.returns
unfolding answer_of
returns c =
    let found : (t : Tables) → room t ≡ c.args.space → length t.points ≡ c.args.points → found_fault c.at.result ≡ tables_fault (version_in c.args.b.now) (pairs_in c.args.b.now) (room t) t.points =
    λ t e f.
    c.at.ensures
    ∙ c.tables.ensures t.points f
    ∙ same_tables c.version_in-version.ensures c.pairs_in-pairs.ensures (sym e) t.points in
    let passed : sheet_fault c.args.b.now ≡ none =
    nothing_none _ c.check.ensures c.in_ok-check.was in
    λ t e f.
    ap finished (ap₂ head c.version_in-version.ensures c.pairs_in-pairs.ensures)
    ∙ answers_pairs _ t passed (nothing_none _ (found t e f) c.in_ok-at.was)
