-- `try_printouts::print_example` meets its contract: the text is within the buffer, and there is no refusal. Assumes nothing.
use mathlib.Core.Path.{sym}
use mathlib.Core.List.{[], ◌∷◌}
use native.Mathlib.Omega.{arith}
use lib.ListN.{length}
use Rattle.std.proofs.lemmas.List.{length-take-le}
use Rattle.printout.specs.Printed.{PrintedPlan, printed_plan, plan_text}
use Rattle.printout.proofs.Answered.{length_within, never_refused}
use Rattle.try_printouts.proofs.print_example.Goals as goal

abbrev example : PrintedPlan
example = printed_plan 2 1 2900 (11 ∷ 12 ∷ []) (1 ∷ 0 ∷ []) (1 ∷ 0 ∷ []) 1 6 1

pub unwrap-n-requires : goal.unwrap-n-requires
unwrap-n-requires g c =
    let p = c.print_plan in
    never_refused {k = length (plan_text example)} p.result
    (p.ensures.rightly.prints (record { ids = omega arith; donors = omega arith; recipients = omega arith }, omega arith))

pub slice_bounds-out-end : goal.slice_bounds-out-end
slice_bounds-out-end g c =
    let p = c.print_plan in
    omega (arith, length_within p.result p.ensures.rightly.within _ c.unwrap-n.ensures)

pub slice_bounds-write_all-end : goal.slice_bounds-write_all-end
slice_bounds-write_all-end g c =
    let p = c.print_plan in
    sym (length-take-le c.unwrap-n.result p.new.out (omega (arith, length_within p.result p.ensures.rightly.within _ c.unwrap-n.ensures)))
