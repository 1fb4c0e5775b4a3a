-- `resolution::cycle_at` meets its contract. Assumes nothing.
use native.Mathlib.Omega.{arith}
use Rattle.entries.specs.Preconditions.{weight_of}
use Rattle.evaluation.proofs.Subsets.{asks_two, asks_triple}
use Rattle.resolution.proofs.Cyclic.{is_two, is_first, is_second, giving_two, giving_three}
use Rattle.resolution.proofs.cycle_at.Goals as goal

pub record_of-requires : goal.record_of-requires
record_of-requires c =
    omega (
      arith,
      c.type_inv.s c.args.p.u,
      c.type_inv.s
          c.args.p.v,
      c.requires.0.few,
      c.requires.2,
    )

pub two-requires : goal.two-requires
two-requires c =
    asks_two _ _ _ _ _ c.requires.0 c.requires.1 c.requires.2

pub returns-then-x-n : goal.returns-then-x-n
returns-then-x-n c =
    giving_two _ (weight_of _ _ _) _ _ _ _ _ c.record_of.ensures
    (is_two _ _ _ _ _ c.requires.2 c.if-x-n.true) c.two.ensures

pub three-first-requires : goal.three-first-requires
three-first-requires c =
    asks_triple _ _ _ _ _ c.requires.0 c.requires.1
    c.requires.2 c.if-x-n.false

pub three-second-requires : goal.three-second-requires
three-second-requires c =
    let asked = asks_triple _ _ _ _ _ c.requires.0 c.requires.1
    c.requires.2 c.if-x-n.false in
    record { readable = asked.readable; first = asked.first; second = asked.third; third = asked.second }

pub record_of-requires-then-first-second : goal.record_of-requires-then-first-second
record_of-requires-then-first-second c =
    omega (
      arith,
      c.type_inv.s c.args.p.u,
      c.type_inv.s c.args.p.v,
      c.type_inv.s c.args.p.w,
      c.requires.0.few,
      c.requires.2,
    )

pub returns-then-first-second : goal.returns-then-first-second
returns-then-first-second c =
    giving_three _ (weight_of _ _ _) _ _ _ _ _ _ c.record_of-then-first-second.ensures
    (is_second _ _ _ _ _ c.requires.2 c.if-x-n.false _ _ c.three-first.ensures
    c.three-second.ensures c.if-first-second.true) c.three-second.ensures

pub record_of-requires-2 : goal.record_of-requires-2
record_of-requires-2 c =
    omega (
      arith,
      c.type_inv.s c.args.p.u,
      c.type_inv.s c.args.p.v,
      c.type_inv.s c.args.p.w,
      c.requires.0.few,
      c.requires.2,
    )

pub returns : goal.returns
returns c =
    giving_three _ (weight_of _ _ _) _ _ _ _ _ _ c.record_of-2.ensures
    (is_first _ _ _ _ _ c.requires.2 c.if-x-n.false _ _ c.three-first.ensures
    c.three-second.ensures c.if-first-second.false) c.three-first.ensures
