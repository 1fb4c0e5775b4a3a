-- `answering::answer` meets its contract. Assumes nothing.
use Rattle.std.proofs.Common.{refl}
use Rattle.pool.specs.Tables.{field_room, room}
use Rattle.answering.proofs.Sheets.{read_accepted, refused_answer, accepted_answer}
use Rattle.answering.proofs.answer.Goals as goal

pub print_pool-requires : goal.print_pool-requires
unfolding room field_room
print_pool-requires c =
    let r = c.read in
    read_accepted _ _ _ r.result r.ensures.equals refl refl _ c.in-Ok.is

pub returns-in-Err : goal.returns-in-Err
unfolding room field_room
returns-in-Err c =
    let r = c.read in
    refused_answer _ _ _ r.result r.ensures.equals refl refl _ _ _ _ c.in-Err.is c.print_refused.ensures

pub returns-in-Ok : goal.returns-in-Ok
unfolding room field_room
returns-in-Ok c =
    let r = c.read in
    accepted_answer _ _ _ r.result r.ensures.equals refl refl _ c.in-Ok.is _ _ _ c.print_pool.ensures
