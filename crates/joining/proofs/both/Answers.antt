-- `joining::both` meets its contract. Assumes nothing.
use mathlib.Core.Path.{◌≡◌, ap, ◌∙◌}
use Prim.Native.Nat.{◌+◌}
use native.Mathlib.Omega.{arith}
use Rattle.pool.specs.Sheet.{sheet_length, version_in}
use Rattle.refusal.proofs.Faults.{handed_on}
use Rattle.joining.proofs.Judged.{both_differ, both_shared, both_many, both_short, both_sound}
use Rattle.joining.proofs.both.Goals as goal

pub returns-in_err-differ : goal.returns-in_err-differ
returns-in_err-differ c =
    rw (handed_on _ _ c.from_residual.ensures) (both_differ _ _ _ _ c.differ.ensures _ c.in_err-differ.was)

pub returns-then-shared : goal.returns-then-shared
returns-then-shared c =
    both_shared _ _ _ _ c.differ.ensures c.in_ok-differ.was _ c.shared.ensures c.if-shared.true

pub returns-then-n-m-gt200 : goal.returns-then-n-m-gt200
returns-then-n-m-gt200 c =
    both_many _ _ _ _ c.differ.ensures c.in_ok-differ.was _ c.shared.ensures c.if-shared.false _ _
    c.pairs_in-n.ensures c.pairs_in-m.ensures (omega (arith, c.if-n-m-gt200.true))

pub returns-then-space-sheet_length : goal.returns-then-space-sheet_length
returns-then-space-sheet_length c =
    let together : c.sheet_length.result ≡ sheet_length (version_in c.args.first.now) (c.pairs_in-n.result + c.pairs_in-m.result) =
    c.sheet_length.ensures.0 ∙ ap (λ v. sheet_length v (c.pairs_in-n.result + c.pairs_in-m.result)) c.version_in.ensures in
    both_short _ _ _ _ c.differ.ensures c.in_ok-differ.was _ c.shared.ensures c.if-shared.false _ _
    c.pairs_in-n.ensures c.pairs_in-m.ensures (omega (arith, c.if-n-m-gt200.false)) (omega (arith, together, c.if-space-sheet_length.true))

pub returns : goal.returns
returns c =
    let together : c.sheet_length.result ≡ sheet_length (version_in c.args.first.now) (c.pairs_in-n.result + c.pairs_in-m.result) =
    c.sheet_length.ensures.0 ∙ ap (λ v. sheet_length v (c.pairs_in-n.result + c.pairs_in-m.result)) c.version_in.ensures in
    both_sound _ _ _ _ c.differ.ensures c.in_ok-differ.was _ c.shared.ensures c.if-shared.false _ _
    c.pairs_in-n.ensures c.pairs_in-m.ensures (omega (arith, c.if-n-m-gt200.false)) (omega (arith, together, c.if-space-sheet_length.false))
