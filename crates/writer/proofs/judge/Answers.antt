-- `writer::judge` meets its contract: what is found first is the first fault there is. Assumes nothing.
use mathlib.Core.Path.{◌≡◌}
use native.Mathlib.Omega.{arith}
use Rattle.pool.specs.Tables.{tables, room}
use Rattle.fields.specs.Lent.{fields_in}
use Rattle.refusal.proofs.Faults.{handed_on}
use Rattle.writer.proofs.Judged.{shortest_room, room_spaced, judged_pairs, judged-held, judged_shuffle}
use Rattle.writer.proofs.judge.Goals as goal

pub pairs-requires : goal.pairs-requires
pairs-requires c =
    let given = tables c.args.points.now (fields_in c.args.fields) c.args.shuffle.now in
    let shortest : c.min-shortest.result ≡ room given =
    shortest_room given c.room.result c.min-shortest.result c.room.ensures c.min-shortest.ensures in
    room_spaced given c.min-shortest.result shortest

pub shuffle-requires : goal.shuffle-requires
shuffle-requires c =
    let given = tables c.args.points.now (fields_in c.args.fields) c.args.shuffle.now in
    let shortest : c.min-shortest.result ≡ room given =
    shortest_room given c.room.result c.min-shortest.result c.room.ensures c.min-shortest.ensures in
    omega (arith, judged-held c.args.version c.args.n given _ shortest c.pairs.result (c.pairs.ensures _ _ _) c.in_ok-pairs.was)

pub returns-in_err-pairs : goal.returns-in_err-pairs
returns-in_err-pairs c =
    let given = tables c.args.points.now (fields_in c.args.fields) c.args.shuffle.now in
    let shortest : c.min-shortest.result ≡ room given =
    shortest_room given c.room.result c.min-shortest.result c.room.ensures c.min-shortest.ensures in
    rw (handed_on _ _ c.from_residual.ensures)
    (judged_pairs c.args.version c.args.n given _ shortest c.pairs.result (c.pairs.ensures _ _ _) _ c.in_err-pairs.was)

pub returns : goal.returns
returns c =
    let given = tables c.args.points.now (fields_in c.args.fields) c.args.shuffle.now in
    let shortest : c.min-shortest.result ≡ room given =
    shortest_room given c.room.result c.min-shortest.result c.room.ensures c.min-shortest.ensures in
    judged_shuffle c.args.version c.args.n given _ shortest c.pairs.result (c.pairs.ensures _ _ _) c.in_ok-pairs.was
    c.shuffle.result (c.shuffle.ensures 0)
