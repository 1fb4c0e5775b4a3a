-- `encoding::put` meets its contract. The invariant: the bytes from i on are written, and `left` is what is still to be written. Assumes nothing.
use Prim.Native.Nat.{ℕ}
use mathlib.Core.Path.{◌≡◌, sym, ap, ◌∙◌}
use native.Mathlib.Omega.{arith}
use Rattle.laws.specs.Digits.{bytes}
use Rattle.laws.specs.Lent.{stored}
use Rattle.laws.proofs.Lent.{bytes_turn, stored_none}
use Rattle.encoding.proofs.put.Goals as goal

pub loop-i-preserved : goal.loop-i-preserved
loop-i-preserved c = bytes_turn c.args.at c.loop-i.i c.loop-i.left c.loop-i.out c.loop-i-test.true (omega arith) ∙ c.loop-i.invariant

pub returns : goal.returns
unfolding bytes
returns c =
    let e : 0 ≡ c.loop-i.i = omega arith in
    sym (stored_none c.args.at c.loop-i.out) ∙ ap (λ (j : ℕ). stored c.args.at (bytes j c.loop-i.left) c.loop-i.out) e ∙ c.loop-i.invariant
