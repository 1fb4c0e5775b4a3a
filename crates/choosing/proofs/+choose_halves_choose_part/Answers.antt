-- `choosing::choose_part` and `choosing::choose_halves` meet their contracts: a part of one weight is its own winner, and the winners of two halves are
-- joined. Assumes nothing.
use native.Mathlib.Omega.{arith}
use Rattle.choosing.proofs.Winners.{right_length, index_few, one-weight, asks_right, join-room, both}
use Rattle.choosing.proofs.+choose_halves_choose_part.Goals as goal

pub choose_halves-overflow_add-first : goal.choose_halves-overflow_add-first
choose_halves-overflow_add-first t c = record { fits = omega (arith, index_few _ _ _ _ _ c.requires.0) }

pub choose_halves-choose_part-right-requires : goal.choose_halves-choose_part-right-requires
choose_halves-choose_part-right-requires t c = (
  omega (arith, c.decreases, right_length c.args.weights.now),
  asks_right _ _ _ _ _ c.requires.0 c.requires.1 _ c.choose_part-left.ensures,
)

pub choose_halves-join-joined-requires : goal.choose_halves-join-joined-requires
choose_halves-join-joined-requires t c =
    join-room _ _ _ _ _ c.requires.0 c.requires.1 _ c.choose_part-left.ensures _ c.choose_part-right.ensures

pub choose_halves-returns : goal.choose_halves-returns
choose_halves-returns t c =
    both _ _ _ _ _ c.requires.0 c.requires.1 _ c.choose_part-left.ensures _ c.choose_part-right.ensures _ c.join-joined.ensures.0 _ c.join-joined.ensures.1

pub choose_part-returns-then-weights-le1 : goal.choose_part-returns-then-weights-le1
choose_part-returns-then-weights-le1 t c =
    one-weight _ _ _ _ _ c.requires c.if-weights-le1.true _ (c.load.ensures 0) _ c.single.ensures
