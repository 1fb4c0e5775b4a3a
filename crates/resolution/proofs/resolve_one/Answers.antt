-- `resolution::resolve_one` meets its contract. Assumes nothing.
use native.Mathlib.Omega.{arith}
use Rattle.resolution.proofs.AllResolved.{none, asks_cycle, asks_engage, asks_append, added}
use Rattle.resolution.proofs.resolve_one.Goals as goal

pub returns-then-count-choice : goal.returns-then-count-choice
returns-then-count-choice c =
    none _ _ _ _ (λ i. omega (arith, c.type_inv.w i)) _ _ _ _ c.requires
    (omega (arith, c.count.ensures, c.if-count-choice.true))

pub cycle_at-g-requires : goal.cycle_at-g-requires
cycle_at-g-requires c =
    asks_cycle _ _ _ _ (λ i. omega (arith, c.type_inv.w i)) _ _ _ _ c.requires
    (omega (arith, c.count.ensures, c.if-count-choice.false)) _ c.at.ensures

pub engage-requires : goal.engage-requires
engage-requires c =
    asks_engage _ _ _ _ (λ i. omega (arith, c.type_inv.w i)) _ _ _ _ c.requires
    (omega (arith, c.count.ensures, c.if-count-choice.false)) _ c.at.ensures _ c.cycle_at-g.ensures

pub append-requires : goal.append-requires
append-requires c =
    asks_append _ _ _ _ (λ i. omega (arith, c.type_inv.w i)) _ _ _ _
    c.requires (omega (arith, c.count.ensures, c.if-count-choice.false)) _
    c.at.ensures _ c.cycle_at-g.ensures

pub returns : goal.returns
returns c =
    added _ _ _ _ (λ i. omega (arith, c.type_inv.w i)) _ _ _ _
    c.requires (omega (
      arith,
      c.count.ensures,
      c.if-count-choice.false,
    )) _ c.at.ensures _ c.cycle_at-g.ensures _ _ _
    c.append.ensures c.engage.ensures
