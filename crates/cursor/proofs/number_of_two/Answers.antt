-- `cursor::number_of_two` meets its contract. Assumes nothing.
use native.Mathlib.Omega.{arith}
use Rattle.cursor.proofs.Number.{twos_le}
use Rattle.cursor.proofs.number_of_two.Goals as goal

pub overflow_add-result : goal.overflow_add-result
overflow_add-result c =
    let start = c in
    record { fits = omega (arith, c.begin_below.ensures, start.requires.1, start.requires.2, start.requires.3, twos_le _ start.requires.3) }
