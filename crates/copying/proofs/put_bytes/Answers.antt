-- `copying::put_bytes` meets its contract. Assumes nothing.
use Prim.Native.Nat.{ℕ}
use mathlib.Core.Path.{◌≡◌}
use mathlib.Core.List.{List, ◌++◌}
use native.Mathlib.Omega.{arith}
use lib.ListN.{length, take, drop}
use lib.Seq.{drop-drop, take_all}
use Rattle.laws.specs.Lent.{stored}
use Rattle.copying.proofs.put_bytes.Goals as goal

-- so many bytes written at a place, where they are the piece and as many as it has
written : (at n : ℕ) (piece l old : List ℕ) → n ≡ length piece → l ≡ piece → take at old ++ (l ++ drop n (drop at old)) ≡ stored at piece old
unfolding stored
written at n piece l old e f = rw (f, e, drop-drop (length piece) at old)

pub returns : goal.returns
returns c = rw c.copy_from_slice.ensures.after (written c.args.at _ c.args.piece.now _ c.args.out.now (omega arith) (grind (arith, take_all)))
