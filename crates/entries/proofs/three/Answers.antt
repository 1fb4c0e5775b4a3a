-- `entries::three` meets its contract. Assumes nothing.
use mathlib.Core.Path.{refl}
use native.Mathlib.Omega.{arith}
use Rattle.entries.proofs.Weighed.{points_of_lem, three_sum, three_product, three_is}
use Rattle.entries.proofs.three.Goals as goal

pub overflow_add-sum : goal.overflow_add-sum
overflow_add-sum c =
    record {
      fits = omega (
        arith,
        points_of_lem _ _ _ (λ i. omega (arith, c.type_inv.w i)) _ _ _
            c.requires _ _ _ c.points.ensures,
        points_of_lem _ _ _
            (λ i. omega (arith, c.type_inv.w i)) _ _ _ c.requires _ _ _ c.points-2.ensures,
      );
    }

pub overflow_add-result : goal.overflow_add-result
overflow_add-result c =
    record {
      fits = omega (
        arith,
        three_sum _ _ _ (λ i. omega (arith, c.type_inv.w i))
            _ _ _ c.requires _ _ c.compatible.ensures c.compatible-2.ensures _ refl _
            c.compatible-3.ensures _ refl _ _ _ c.points.ensures c.points-2.ensures
            c.points-3.ensures,
      );
    }

pub overflow_mul-result : goal.overflow_mul-result
overflow_mul-result c =
    record {
      fits = three_product _ _ _ (λ i. omega (arith, c.type_inv.w i)) _ _ _
          c.requires _ _ c.compatible.ensures c.compatible-2.ensures _ refl _
          c.compatible-3.ensures _ refl _ _ _ c.points.ensures c.points-2.ensures
          c.points-3.ensures _ refl _ refl;
    }

pub returns : goal.returns
returns c =
    three_is _ _ _ (λ i. omega (arith, c.type_inv.w i)) _ _ _ c.requires
    _ _ c.compatible.ensures c.compatible-2.ensures _ refl _
    c.compatible-3.ensures _ refl _ _ _ c.points.ensures c.points-2.ensures
    c.points-3.ensures _ refl _ refl _ refl
