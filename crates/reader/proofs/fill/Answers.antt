-- `reader::fill` meets its contract: each call fills its table of the struct, and the struct lends the same tables as before. Assumes nothing.
use mathlib.Core.Path.{◌≡◌, refl, ap, ◌∙◌}
use native.Mathlib.Omega.{arith}
use Rattle.pool.specs.Sheet.{pair_place, pool_of, pair_at, id_at, donor_blood_at, patient_blood_at, donor_age_at, patient_age_at, donor_antigens_at, patient_antigens_at, patient_antibodies_at, pair_due}
use Rattle.pool.specs.Tables.{filled_fields, filled_tables}
use Rattle.pool.proofs.Points.{size_most, count_size}
use Rattle.pool.proofs.Rooms.{room_hold}
use Rattle.reader.proofs.Columns.{column, own_points, numbers}
use Rattle.reader.proofs.fill.Goals as goal

pub fill_numbers-requires : goal.fill_numbers-requires
fill_numbers-requires c =
    let v = c.args.version in
    omega (arith, c.point_count.ensures, count_size v, size_most v, c.requires.whole, c.requires.held_points)

pub fill_column-requires : goal.fill_column-requires
fill_column-requires c =
    let held = room_hold _ _ _ c.requires.held c.requires.held_points in
    omega (arith, c.requires.few, c.requires.whole, held.fields.ids)

pub fill_column-requires-2 : goal.fill_column-requires-2
fill_column-requires-2 c =
    let held = room_hold _ _ _ c.requires.held c.requires.held_points in
    omega (arith, c.requires.few, c.requires.whole, held.fields.donor_blood)

pub fill_column-requires-3 : goal.fill_column-requires-3
fill_column-requires-3 c =
    let held = room_hold _ _ _ c.requires.held c.requires.held_points in
    omega (arith, c.requires.few, c.requires.whole, held.fields.patient_blood)

pub fill_column-requires-4 : goal.fill_column-requires-4
fill_column-requires-4 c =
    let held = room_hold _ _ _ c.requires.held c.requires.held_points in
    omega (arith, c.requires.few, c.requires.whole, held.fields.donor_age)

pub fill_column-requires-5 : goal.fill_column-requires-5
fill_column-requires-5 c =
    let held = room_hold _ _ _ c.requires.held c.requires.held_points in
    omega (arith, c.requires.few, c.requires.whole, held.fields.patient_age)

pub fill_column-requires-6 : goal.fill_column-requires-6
fill_column-requires-6 c =
    let held = room_hold _ _ _ c.requires.held c.requires.held_points in
    omega (arith, c.requires.few, c.requires.whole, held.fields.donor_antigens)

pub fill_column-requires-7 : goal.fill_column-requires-7
fill_column-requires-7 c =
    let held = room_hold _ _ _ c.requires.held c.requires.held_points in
    omega (arith, c.requires.few, c.requires.whole, held.fields.patient_antigens)

pub fill_column-requires-8 : goal.fill_column-requires-8
fill_column-requires-8 c =
    let held = room_hold _ _ _ c.requires.held c.requires.held_points in
    omega (arith, c.requires.few, c.requires.whole, held.fields.patient_antibodies)

pub pair_place-requires : goal.pair_place-requires
pair_place-requires c = c.requires.few

pub fill_numbers-requires-2 : goal.fill_numbers-requires-2
fill_numbers-requires-2 c =
    let held = room_hold _ _ _ c.requires.held c.requires.held_points in
    omega (arith, c.requires.few, c.requires.whole, held.shuffle, c.pair_place.ensures)

pub returns-clause-filled : goal.returns-clause-filled
unfolding filled_tables filled_fields pool_of pair_at
returns-clause-filled c =
    let due : c.pair_place.result ≡ pair_due c.args.b.now c.args.n =
    c.pair_place.ensures.0 ∙ ap (λ v. pair_place v c.args.n) c.requires.version in
    let version = c.requires.version in
    let many = c.requires.many in
    λ i. record {
      points = own_points _ _ version _ _ _ c.point_count.ensures c.fill_numbers.ensures i;
      fields =
          record {
            ids = column _ _ many _ _ _ version 4 id_at (λ q. q.id) (λ i. refl) c.fill_column.ensures i;
            donor_blood = column _ _ many _ _ _ version 1 donor_blood_at (λ q. q.donor_blood) (λ i. refl) c.fill_column-2.ensures i;
            patient_blood = column _ _ many _ _ _ version 1 patient_blood_at (λ q. q.patient_blood) (λ i. refl) c.fill_column-3.ensures i;
            donor_age = column _ _ many _ _ _ version 1 donor_age_at (λ q. q.donor_age) (λ i. refl) c.fill_column-4.ensures i;
            patient_age = column _ _ many _ _ _ version 1 patient_age_at (λ q. q.patient_age) (λ i. refl) c.fill_column-5.ensures i;
            donor_antigens = column _ _ many _ _ _ version 8 donor_antigens_at (λ q. q.donor_antigens) (λ i. refl) c.fill_column-6.ensures i;
            patient_antigens = column _ _ many _ _ _ version 8 patient_antigens_at (λ q. q.patient_antigens) (λ i. refl) c.fill_column-7.ensures i;
            patient_antibodies = column _ _ many _ _ _ version 8 patient_antibodies_at (λ q. q.patient_antibodies) (λ i. refl) c.fill_column-8.ensures i;
          };
      shuffle = numbers _ _ many _ _ _ due c.fill_numbers-2.ensures i;
    }
