-- `checks::pairs` meets its contract. The loop's invariant: the pairs passed have no fault. Assumes nothing.
use mathlib.Core.Path.{refl}
use native.Mathlib.Omega.{arith}
use Rattle.refusal.specs.Fault.{first_below}
use Rattle.refusal.proofs.Faults.{first_more, sound_none, handed_on}
use Rattle.checks.proofs.Found.{agree_in, pairs_before, before_fits, pairs_found, pairs_sound}
use Rattle.checks.proofs.pairs.Goals as goal

pub returns-in_err-ready : goal.returns-in_err-ready
returns-in_err-ready c f g h =
    rw (handed_on _ _ c.from_residual.ensures) (pairs_before _ _ _ _ _ c.ready.result c.ready.ensures _ c.in_err-ready.was)

pub loop-i-init : goal.loop-i-init
unfolding first_below
loop-i-init c =
    let fits = before_fits _ _ _ _ c.ready.result c.ready.ensures c.in_ok-ready.was in
    (fits.0, fits.1, λ f g h. refl)

pub returns-in_err-pair : goal.returns-in_err-pair
returns-in_err-pair c f g h =
    let l = c.loop-i in
    rw (handed_on _ _ c.from_residual-in_err-pair.ensures)
    (pairs_found _ _ _ _ _ c.ready.result c.ready.ensures c.in_ok-ready.was l.i (omega arith) (l.invariant.2 f g h)
    c.pair.result (c.pair.ensures 0 _ (agree_in _ l.i)) _ c.in_err-pair.was)

pub loop-i-preserved : goal.loop-i-preserved
loop-i-preserved c =
    let l = c.loop-i in (
      l.invariant.0,
      l.invariant.1,
      λ f g h.
          first_more l.i _ (l.invariant.2 f g h)
          (sound_none 0 c.pair.result (c.pair.ensures 0 _ (agree_in _ l.i)) c.in_ok-pair.was),
    )

pub returns : goal.returns
returns c f g h =
    pairs_sound _ _ _ _ _ c.ready.result c.ready.ensures c.in_ok-ready.was c.loop-i.i (omega arith) (c.loop-i.invariant.2 f g h)
