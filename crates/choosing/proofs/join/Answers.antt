-- `choosing::join` meets its contract. Assumes nothing.
use Rattle.gates.proofs.Gates.{raised_then}
use Rattle.choosing.proofs.Joins.{joined}
use Rattle.choosing.proofs.join.Goals as goal

pub returns : goal.returns
returns c =
    let w = c in
    let v = w in
    let u = v in
    let number = u in
    let weight = number in
    let right = weight in
    let s = right in (
      joined s.args.a s.args.b _ right.comparison-right.ensures.0 _ _ _ _ _ weight.pick-weight.ensures.0 number.pick-number.ensures.0 u.pick-u.ensures.0
          v.pick-v.ensures.0 w.pick-w.ensures.0,
      raised_then (raised_then (raised_then (raised_then (raised_then right.comparison-right.ensures.1 weight.pick-weight.ensures.1)
          number.pick-number.ensures.1) u.pick-u.ensures.1)
          v.pick-v.ensures.1) w.pick-w.ensures.1,
    )
