-- The measure of `choose_part` and `choose_halves` is twice the number of weights, and one more for the first. Assumes nothing.
use Prim.Native.Nat.{◌+◌, ◌*◌}
use lib.ListN.{length}
use Rattle.choosing.proofs.+choose_halves_choose_part.Given as goal

abbrev pub decreases-choose_halves : goal.decreases-choose_halves
decreases-choose_halves l = 2 * length l.weights.now

abbrev pub decreases-choose_part : goal.decreases-choose_part
decreases-choose_part l = 2 * length l.weights.now + 1
