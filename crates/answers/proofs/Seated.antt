-- The shuffle of a faultless pool has each number once. Assumes nothing.
use mathlib.Core.Path.{refl, sym}
use Prim.Native.Nat.{ℕ}
use native.Mathlib.Omega.{arith}
use lib.ListN.{get_or}
use Rattle.laws.specs.Below.{table}
use Rattle.laws.proofs.Below.{length-table, get_or-table}
use Rattle.pool.specs.Pool.{Pair}
use Rattle.pool.specs.Faultless.{EachOnce, Faultless}
use Rattle.pool.proofs.Pairs.{faultless_cong}
use Rattle.exchange.proofs.Inverse.{Invertible, invertible}

module _ (v : ℕ) (p : ℕ → ℕ) (n : ℕ) (pair : ℕ → Pair) (s : ℕ → ℕ) (w : Faultless v p n pair s) where
  pub each_once_lem : EachOnce n (λ j. get_or (table n s) j 0)
  each_once_lem = (faultless_cong v n p p pair pair s _ (λ k l. refl) (λ i l. refl) (λ j l. sym (get_or-table n s 0 j l)) w).each_once

  pub shuffle_seated : Invertible n (table n s)
  shuffle_seated = invertible n (table n s) (omega (arith, length-table n s)) each_once_lem
