-- `joining::judge` meets its contract. Assumes nothing.
use mathlib.Core.Path.{◌≡◌, ◌∙◌}
use Rattle.refusal.specs.Fault.{none}
use Rattle.refusal.specs.Number.{found_fault}
use Rattle.refusal.proofs.Faults.{nothing_none, found_fault_lem, handed_on}
use Rattle.pool.specs.Faults.{sheet_fault}
use Rattle.pool.proofs.Reading.{sheet_passed}
use Rattle.joining.proofs.Judged.{first_own_lem, second_own_lem, none_own}
use Rattle.joining.proofs.judge.Goals as goal

pub returns-in_err-check : goal.returns-in_err-check
unfolding found_fault
returns-in_err-check c =
    rw (handed_on _ _ c.from_residual.ensures) (first_own_lem _ _ _ (found_fault_lem _ c.check.ensures _ c.in_err-check.was))

pub returns-in_err-check-2 : goal.returns-in_err-check-2
unfolding found_fault
returns-in_err-check-2 c =
    let no-first : sheet_fault c.args.first.now ≡ none = nothing_none _ c.check.ensures c.in_ok-check.was in
    rw (handed_on _ _ c.from_residual-in_err-check-2.ensures)
    (second_own_lem _ _ _ no-first (found_fault_lem _ c.check-2.ensures _ c.in_err-check-2.was))

pub both-requires : goal.both-requires
both-requires c =
    (sheet_passed _ (nothing_none _ c.check.ensures c.in_ok-check.was), sheet_passed _ (nothing_none _ c.check-2.ensures c.in_ok-check-2.was))

pub returns : goal.returns
returns c =
    c.at.ensures
    ∙ c.both.ensures
    ∙ none_own _ _ _ (nothing_none _ c.check.ensures c.in_ok-check.was) (nothing_none _ c.check-2.ensures c.in_ok-check-2.was)
