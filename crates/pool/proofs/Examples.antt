-- The examples, computed. Assumes nothing.
use mathlib.Core.Path.{refl}
use mathlib.Core.List.{flat_map, flatten}
use Rattle.laws.specs.Below.{table, either, any_below, one, count_below}
use Rattle.laws.specs.Digits.{big_endian, bytes}
use Rattle.laws.specs.Lent.{filled}
use Rattle.refusal.specs.Fault.{refuse, only, ◌then◌, first_below}
use Rattle.refusal.specs.Answer.{unless}
use Rattle.pool.specs.Points.{document_points, known_version, has_points, point_count, heaviest}
use Rattle.pool.specs.Sheet.{field, head_field, numbers_field, points_field, opening, pair_field, sheet_of, points_size, number_at, version_in, pairs_in, pair_at, pool_of}
use Rattle.pool.specs.Faults.{group_fault, id_fault, pair_fault, shuffle_fault, version_fault, points_fault, field_fault, head_fault, points_field_fault, pair_field_fault, shuffle_field_fault, end_fault, sheet_fault, room_fault}
use Rattle.pool.specs.Joining.{joined_pool, joined_sheet, differ_fault, id_in_both, shared_fault, together_fault, both_fault, join_fault, joining}
use Rattle.pool.specs.Examples.{FieldOrder, PointsOrder, PointsJudged, ExampleJoined, PointsJoined}

pub field-order : FieldOrder
unfolding big_endian bytes field head_field has_points points_size version_in pair_field pair_at
field-order = record { written = refl; read = refl }

pub points_order : PointsOrder
unfolding flat_map big_endian bytes field head_field numbers_field points_field has_points number_at
points_order = record { written = refl; first_written = refl; read = refl }

pub points_judged : PointsJudged
unfolding either refuse document_points heaviest points_fault
points_judged =
    record {
      document = refl;
      third = refl;
      second = refl;
      young = refl;
      base_alone = refl;
      no_base = refl;
      third_too_heavy = refl;
      young_too_heavy = refl;
      second_too_heavy = refl;
      wraps = refl;
    }

pub example_joined : ExampleJoined
unfolding flat_map flatten table either any_below one count_below big_endian bytes filled refuse only ◌then◌ first_below unless known_version has_points
    point_count field head_field numbers_field points_field opening pair_field sheet_of points_size number_at version_in pairs_in pair_at pool_of group_fault id_fault
    pair_fault shuffle_fault version_fault points_fault heaviest field_fault head_fault points_field_fault pair_field_fault shuffle_field_fault end_fault sheet_fault
    room_fault joined_pool joined_sheet differ_fault id_in_both shared_fault together_fault both_fault join_fault joining
example_joined = record { joined = refl; short = refl; shared = refl; first_own = refl; second_own = refl }

pub points_joined : PointsJoined
unfolding flat_map flatten table either any_below one count_below big_endian bytes filled refuse only ◌then◌ first_below unless known_version has_points
    point_count field head_field numbers_field points_field opening pair_field sheet_of points_size number_at version_in pairs_in pair_at pool_of group_fault id_fault
    pair_fault shuffle_fault version_fault points_fault heaviest field_fault head_fault points_field_fault pair_field_fault shuffle_field_fault end_fault sheet_fault
    room_fault joined_pool joined_sheet differ_fault id_in_both shared_fault together_fault both_fault join_fault joining
points_joined =
    record {
      joined = refl;
      versions = refl;
      points = refl;
      own = refl;
      no_version = refl;
      later_version = refl;
      points_missing = refl;
      before_pairs = refl;
      after_field = refl;
    }
