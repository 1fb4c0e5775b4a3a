-- A join by gates. Assumes nothing.
use Prim.Native.Nat.{ℕ}
use mathlib.Core.Bool.{Bool, true, false, cond}
use mathlib.Core.Path.{◌≡◌, refl, ◌∙◌}
use lib.Dec.{eqb, ltb}
use Rattle.laws.specs.Below.{one}
use Rattle.gates.specs.Secrets.{value_of}
use Rattle.gates.specs.declared.Secret.{Secret}
use Rattle.gates.proofs.Gates.{pick_by, same_cond}
use Rattle.choosing.specs.declared.Best.{Best}

-- a winner from its parts
pub bests : {w w' i i' u u' v v' x x' : Secret} → w ≡ w' → i ≡ i' → u ≡ u' → v ≡ v' → x ≡ x'
    → ◌≡◌ {A = Best} (record { weight = w; number = i; at = record { u = u; v = v; w = x } }) (record { weight = w'; number = i'; at = record { u = u'; v = v'; w = x' } })
bests a b c d e = cc

-- a winner picked part by part
best_cond : (t : Bool) (a b : Best)
    → ◌≡◌ {A = Best}
    (record {
      weight = cond t b.weight a.weight;
      number = cond t b.number a.number;
      at = record { u = cond t b.at.u a.at.u; v = cond t b.at.v a.at.v; w = cond t b.at.w a.at.w };
    })
    (cond t b a)
best_cond true a b = refl
best_cond false a b = refl

module _ (a b : Best) (bit : ℕ) (eb : bit ≡ one (ltb (value_of a.weight) (value_of b.weight))) where
  t : Bool
  t = ltb (value_of a.weight) (value_of b.weight)

  by : (x y r : Secret) → value_of r ≡ cond (eqb bit 1) (value_of y) (value_of x) → r ≡ cond t y x
  unfolding t
  by x y r e = same_cond t r y x (pick_by t bit (value_of y) (value_of x) (value_of r) eb e)

  pub joined : (w i u v x : Secret)
      → value_of w ≡ cond (eqb bit 1) (value_of b.weight) (value_of a.weight) → value_of i ≡ cond (eqb bit 1) (value_of b.number) (value_of a.number)
      → value_of u ≡ cond (eqb bit 1) (value_of b.at.u) (value_of a.at.u) → value_of v ≡ cond (eqb bit 1) (value_of b.at.v) (value_of a.at.v)
      → value_of x ≡ cond (eqb bit 1) (value_of b.at.w) (value_of a.at.w)
      → ◌≡◌ {A = Best} (record { weight = w; number = i; at = record { u = u; v = v; w = x } }) (cond (ltb (value_of a.weight) (value_of b.weight)) b a)
  unfolding t
  joined w i u v x ew ei eu ev ex = bests (by _ _ w ew) (by _ _ i ei) (by _ _ u eu) (by _ _ v ev) (by _ _ x ex) ∙ best_cond t a b
