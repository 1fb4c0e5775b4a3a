-- The list of calls, computed. Assumes nothing.
use mathlib.Core.Path.{refl}
use Rattle.laws.specs.Below.{table, either, any_below, count_below, one}
use Rattle.laws.specs.Lent.{filled, stored}
use Rattle.refusal.specs.Fault.{refuse, ◌then◌, first_below}
use Rattle.refusal.specs.Answer.{unless}
use Rattle.pool.specs.Points.{document_points, has_points, point_count, points_of, heaviest}
use Rattle.pool.specs.Tables.{field_room, pair_in}
use Rattle.pool.specs.Faults.{group_fault, id_fault, points_fault, room_fault, tables_fault}
use Rattle.donation.specs.Compatibility.{blood_table, suits, has, share_bit, compatibility}
use Rattle.donation.specs.Weight.{mismatches, mismatch_points, age_points, weight}
use Rattle.graph.specs.Graph.{in_rows, filled_graph}
use Rattle.live.specs.Live.{pair_room}
use Rattle.live.specs.Suitable.{ones_in, with_numbers}
use Rattle.live.specs.Faults.{start_fault, graph_fault, sizes_fault, numbers_fault, stored_fault, range_fault, like_fault, more_fault, register_fault, withdraw_fault}
use Rattle.live.specs.Calls.{in_order, starting, with_pair, registered, registering, place_of, up, without_entry, without_row, without_pair, without_at, withdrawing}
use Rattle.live.specs.Lists.{does, after, trace, takes_out, withdrawn_in, staying, brought_in, held}
use Rattle.live.specs.Examples.{LiveRun, NumbersRun}

runs : LiveRun × NumbersRun
unfolding table either any_below count_below one filled stored refuse ◌then◌ first_below unless document_points has_points point_count points_of heaviest field_room pair_in
    group_fault id_fault points_fault room_fault tables_fault blood_table suits has share_bit compatibility mismatches mismatch_points age_points weight in_rows
    filled_graph pair_room ones_in with_numbers start_fault graph_fault sizes_fault numbers_fault stored_fault range_fault like_fault more_fault register_fault withdraw_fault in_order starting with_pair registered registering place_of up
    without_entry without_row without_pair without_at withdrawing does after trace takes_out withdrawn_in staying brought_in held
runs = (
  record { start = refl; three = refl; two = refl; moved = refl; answers = refl; ids = refl; holds = refl },
  record { three = refl; two = refl; again = refl; withdrawn = refl; registered = refl; registers = refl; withdraws = refl },
)

pub live_run : LiveRun
live_run = runs.0

pub numbers_run : NumbersRun
numbers_run = runs.1
