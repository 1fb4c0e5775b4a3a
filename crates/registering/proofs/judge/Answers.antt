-- `registering::judge` meets its contract. Assumes nothing.
use Rattle.refusal.proofs.Faults.{handed_on}
use Rattle.registering.proofs.Judged.{stored_fits, judged_kept, judged_pairs, judged_more, room_fewer}
use Rattle.registering.proofs.judge.Goals as goal

pub returns-in_err-judge : goal.returns-in_err-judge
returns-in_err-judge c =
    rw (handed_on _ _ c.from_residual.ensures) (judged_kept _ _ _ _ c.judge.result c.judge.ensures _ c.in_err-judge.was)

pub pairs-requires : goal.pairs-requires
pairs-requires c =
    room_fewer _ _ (stored_fits _ _ _ _ _ _ c.judge.result c.judge.ensures c.in_ok-judge.was).1 c.requires.tables_have_room

pub more-requires : goal.more-requires
more-requires c = (stored_fits _ _ _ _ _ _ c.judge.result c.judge.ensures c.in_ok-judge.was).0

pub returns-in_err-pairs : goal.returns-in_err-pairs
returns-in_err-pairs c =
    rw (handed_on _ _ c.from_residual-in_err-pairs.ensures)
    (judged_pairs _ _ _ _ c.judge.result c.judge.ensures c.in_ok-judge.was c.pairs.result c.pairs.ensures _ c.in_err-pairs.was)

pub returns : goal.returns
returns c =
    judged_more _ _ _ _ c.judge.result c.judge.ensures c.in_ok-judge.was c.pairs.result c.pairs.ensures c.in_ok-pairs.was c.more.result
    c.more.ensures
