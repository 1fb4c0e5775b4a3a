-- `printout::print_refusal` meets its contract: it prints document 01's number, which has one byte. Assumes nothing.
use Prim.Native.Nat.{ℕ}
use mathlib.Core.Path.{ap, ◌∙◌}
use native.Mathlib.Omega.{arith}
use Rattle.printout.specs.Calls.{printing_refusal}
use Rattle.printout.proofs.Answered.{prints_refusal}
use Rattle.printout.proofs.print_refusal.Goals as goal

pub returns : goal.returns
returns c =
    let e = c.print_refused.ensures.equals ∙ ap (λ (k : ℕ). printing_refusal k c.args.place c.args.out.now) c.number.ensures in
    record { equals = e; rightly = prints_refusal _ c.args.place c.args.out.now c.ranges.place.fits e (omega (arith, c.number.ensures)) }
