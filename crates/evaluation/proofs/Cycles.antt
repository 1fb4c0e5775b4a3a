-- The weight of a cycle. Assumes nothing.
use Prim.Native.Nat.{ℕ, ◌+◌, ◌*◌}
use mathlib.Core.List.{List, [], ◌∷◌}
use mathlib.Core.Path.{◌≡◌, sym, ◌∙◌}
use native.Mathlib.Nat.{mul-one, mul_assoc}
use native.Mathlib.Omega.{arith}
use Rattle.exchange.specs.Subsets.{entry, weigh}
use Rattle.exchange.proofs.Evaluated.{weigh_two, weigh_three}
use Rattle.gates.specs.Secrets.{value_of}
use Rattle.evaluation.specs.Entries.{Between, compatibilities, weights, cycle_weight}
use Rattle.evaluation.specs.declared.EdgeEntries.{EdgeEntries}

-- ## What `two` and `three` make of their edges' entries

module _ (ab ba : EdgeEntries) where
  pub two_is : cycle_weight (ab ∷ ba ∷ []) ≡ value_of ab.m * value_of ba.m * (value_of ab.w + value_of ba.w)
  unfolding cycle_weight compatibilities weights
  two_is = let e : value_of ab.w + (value_of ba.w + 0) ≡ value_of ab.w + value_of ba.w = omega arith in rw (e, mul-one)

module _ (ab bc ca : EdgeEntries) where
  pub three_is : cycle_weight (ab ∷ bc ∷ ca ∷ []) ≡ value_of ab.m * value_of bc.m * value_of ca.m * (value_of ab.w + value_of bc.w + value_of ca.w)
  unfolding cycle_weight compatibilities weights
  three_is =
      let e : value_of ab.w + (value_of bc.w + (value_of ca.w + 0)) ≡ value_of ab.w + value_of bc.w + value_of ca.w = omega arith in
      let d : value_of ab.m * (value_of bc.m * (value_of ca.m * 1)) ≡ value_of ab.m * value_of bc.m * value_of ca.m = rw (mul-one, mul_assoc) in
      rw (e, d)

-- ## They are the weights of the cycles of pairs

module _ (n : ℕ) (M W : List ℕ) where
  pub weighs_two : (a b : ℕ) (ab ba : EdgeEntries) → Between n M W a b ab → Between n M W b a ba
      → cycle_weight (ab ∷ ba ∷ []) ≡ weigh (entry M n) (entry W n) (a ∷ b ∷ [])
  weighs_two a b ab ba p q = two_is ab ba ∙ (rw (p.m, q.m, p.w, q.w) (sym (weigh_two (entry M n) (entry W n) a b)))

  pub weighs_three : (a b c : ℕ) (ab bc ca : EdgeEntries) → Between n M W a b ab → Between n M W b c bc → Between n M W c a ca
      → cycle_weight (ab ∷ bc ∷ ca ∷ []) ≡ weigh (entry M n) (entry W n) (a ∷ b ∷ c ∷ [])
  weighs_three a b c ab bc ca p q r =
      three_is ab bc ca ∙ (rw (p.m, q.m, r.m, p.w, q.w, r.w) (sym (weigh_three (entry M n) (entry W n) a b c)))
