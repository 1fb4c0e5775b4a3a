-- `entries::two` meets its contract. Assumes nothing.
use mathlib.Core.Path.{refl}
use native.Mathlib.Omega.{arith}
use Rattle.entries.proofs.Weighed.{two_sum, two_product, two_is}
use Rattle.entries.proofs.two.Goals as goal

pub overflow_add-result : goal.overflow_add-result
overflow_add-result c =
    record {
      fits = two_sum _ _ _ (λ i. omega (arith, c.type_inv.w i)) _ _ _ c.requires _ _
          c.compatible.ensures c.compatible-2.ensures _ refl _ _ c.points.ensures
          c.points-2.ensures;
    }

pub overflow_mul-result : goal.overflow_mul-result
overflow_mul-result c =
    record {
      fits = two_product _ _ _ (λ i. omega (arith, c.type_inv.w i)) _ _ _ c.requires _
          _ c.compatible.ensures c.compatible-2.ensures _ refl _ _ c.points.ensures
          c.points-2.ensures _ refl;
    }

pub returns : goal.returns
returns c =
    two_is _ _ _ (λ i. omega (arith, c.type_inv.w i)) _ _ _ c.requires _ _
    c.compatible.ensures c.compatible-2.ensures _ refl _ _ c.points.ensures
    c.points-2.ensures _ refl _ refl
