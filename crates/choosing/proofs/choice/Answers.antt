-- `choosing::choice` meets its contract. Assumes nothing.
use native.Mathlib.Omega.{arith}
use Rattle.cursor.proofs.Number.{count_le}
use Rattle.choosing.proofs.Tested.{room_test, chosen}
use Rattle.choosing.proofs.choice.Goals as goal

pub final_test-requires : goal.final_test-requires
final_test-requires c =
    let won = c in
    let pre = won.requires in
    (omega (arith, pre.few), omega (arith, pre.whole, count_le _ pre.few), room_test _ _ _ pre _ won.choose_part-won.ensures)

pub returns : goal.returns
returns c =
    let won = c in
    let made = c.final_test.ensures in
    chosen _ _ _ won.requires _ won.choose_part-won.ensures _ _ made.0 made.1 made.2
