-- `choosing::final_test` meets its contract. Assumes nothing.
use Rattle.gates.proofs.Gates.{raised_then}
use Rattle.choosing.proofs.Tested.{number_is, places_are_tested}
use Rattle.choosing.proofs.final_test.Goals as goal

pub returns : goal.returns
returns c =
    let w = c in
    let v = w in
    let u = v in
    let number = u in
    let some = number in
    let nowhere = some in
    let none = nowhere in
    let a = some.args in (
      number_is a.n a.floor a.none a.best _ _ none.known-floor.ensures some.comparison-some.ensures.0 _ _ none.known-none.ensures number.pick-number.ensures.0,
      places_are_tested a.n a.floor a.none a.best _ _ none.known-floor.ensures some.comparison-some.ensures.0 _ _ _ _ nowhere.known-nowhere.ensures
          u.pick-u.ensures.0 v.pick-v.ensures.0 w.pick-w.ensures.0,
      raised_then (raised_then (raised_then (raised_then some.comparison-some.ensures.1 number.pick-number.ensures.1) u.pick-u.ensures.1)
          v.pick-v.ensures.1) w.pick-w.ensures.1,
    )
