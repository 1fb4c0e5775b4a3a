-- Sheets and their answers, computed. Assumes nothing.
use mathlib.Core.Path.{refl}
use mathlib.Core.List.{flat_map, flatten}
use Rattle.laws.specs.Below.{table, either, any_below, count_below, one}
use Rattle.laws.specs.Digits.{big_endian}
use Rattle.refusal.specs.Fault.{refuse, only, ◌then◌, first_below}
use Rattle.pool.specs.Points.{document_points, known_version, has_points, points_of, heaviest as heaviestEdge}
use Rattle.pool.specs.Sheet.{points_size, number_at, version_in, pairs_in, pair_at}
use Rattle.pool.specs.Faults.{group_fault, id_fault, pair_fault, shuffle_fault, version_fault, points_fault, field_fault, head_fault, points_field_fault, pair_field_fault, shuffle_field_fault, end_fault, sheet_fault, room_fault}
use Rattle.donation.specs.Compatibility.{blood_table, suits, has, share_bit, compatibility}
use Rattle.donation.specs.Weight.{mismatches, mismatch_points, age_points, weight}
use Rattle.greedy.specs.Places.{among, meets}
use Rattle.greedy.specs.Tally.{raise, next_round}
use Rattle.greedy.specs.Rounds.{join, by_halves, choosing, clear, clearing_tally, rounds}
use Rattle.exchange.specs.Subsets.{ascending, subsets, each_first, orders, cycles, along, edges, product_of, sum_of, weigh, first_of, heaviest, pairs_at, best_cycle, subset_weight, evaluation_tally}
use Rattle.exchange.specs.Resolution.{resolved, recipient_by, donor_by, recipient_table, donor_table, total}
use Rattle.exchange.specs.Planning.{left_by, planned_by, plan_from}
use Rattle.text.specs.Text.{digits_within, decimal, line}
use Rattle.partners.specs.Pairs.{partner, pair_line, pair_lines}
use Rattle.printout.specs.Printed.{plan_text}
use Rattle.answers.specs.Answering.{plan_by, printed_plan_of, or_refusal, answer_text}
use Rattle.answers.specs.Examples.{ExampleAnswered, RegistryAnswered, TripleAnswered}

pub example_answered : ExampleAnswered
unfolding answer_text or_refusal printed_plan_of plan_by plan_text pair_lines pair_line partner line decimal digits_within flat_map flatten table either any_below
    count_below one big_endian refuse only ◌then◌ first_below known_version has_points points_of heaviestEdge points_size number_at version_in pairs_in pair_at
    group_fault id_fault pair_fault shuffle_fault version_fault points_fault field_fault head_fault points_field_fault pair_field_fault shuffle_field_fault end_fault sheet_fault room_fault blood_table suits has share_bit compatibility
    document_points mismatches mismatch_points age_points weight among meets raise next_round join by_halves choosing clear clearing_tally rounds ascending subsets each_first orders
    cycles along edges product_of sum_of weigh first_of heaviest pairs_at best_cycle subset_weight evaluation_tally resolved recipient_by donor_by
    recipient_table donor_table total left_by planned_by plan_from
example_answered = refl

pub registry_answered : RegistryAnswered
unfolding answer_text or_refusal printed_plan_of plan_by plan_text pair_lines pair_line partner line decimal digits_within flat_map flatten table either any_below
    count_below one big_endian refuse only ◌then◌ first_below known_version has_points points_of heaviestEdge points_size number_at version_in pairs_in pair_at
    group_fault id_fault pair_fault shuffle_fault version_fault points_fault field_fault head_fault points_field_fault pair_field_fault shuffle_field_fault end_fault sheet_fault room_fault blood_table suits has share_bit compatibility
    document_points mismatches mismatch_points age_points weight among meets raise next_round join by_halves choosing clear clearing_tally rounds ascending subsets each_first orders
    cycles along edges product_of sum_of weigh first_of heaviest pairs_at best_cycle subset_weight evaluation_tally resolved recipient_by donor_by
    recipient_table donor_table total left_by planned_by plan_from
registry_answered = refl

pub triple_answered : TripleAnswered
unfolding answer_text or_refusal printed_plan_of plan_by plan_text pair_lines pair_line partner line decimal digits_within flat_map flatten table either any_below
    count_below one big_endian refuse only ◌then◌ first_below known_version has_points points_of heaviestEdge points_size number_at version_in pairs_in pair_at
    group_fault id_fault pair_fault shuffle_fault version_fault points_fault field_fault head_fault points_field_fault pair_field_fault shuffle_field_fault end_fault sheet_fault room_fault blood_table suits has share_bit compatibility
    document_points mismatches mismatch_points age_points weight among meets raise next_round join by_halves choosing clear clearing_tally rounds ascending subsets each_first orders
    cycles along edges product_of sum_of weigh first_of heaviest pairs_at best_cycle subset_weight evaluation_tally resolved recipient_by donor_by
    recipient_table donor_table total left_by planned_by plan_from
triple_answered = refl
