-- Of a table this long the length is cited, since to compute it is too much.
use Prim.Native.Nat.{ℕ}
use mathlib.Core.Path.{sym}
use lib.ListN.{length-replicate}
use Rattle.try_pools.proofs.try_200.Goals as goal

pub slice_bounds-try_200_with-end : goal.slice_bounds-try_200_with-end
slice_bounds-try_200_with-end g c = sym (length-replicate {A = ℕ} 1333301 99)
