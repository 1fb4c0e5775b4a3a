-- `appending::put_raised` meets its contract. The loop's invariant: j numbers of two bytes are written from `at` on. Assumes nothing.
use Prim.Native.Nat.{ℕ, ◌+◌, ◌*◌, ◌^◌, ◌<◌}
use mathlib.Core.Path.{◌≡◌, ap, ◌∙◌}
use native.Mathlib.Omega.{arith}
use Rattle.laws.specs.Digits.{bytes}
use Rattle.laws.specs.Lent.{stored}
use Rattle.laws.proofs.Digits.{length-bytes, big_endian_lt}
use Rattle.laws.proofs.Lent.{pieces_none, pieces_more}
use Rattle.pool.specs.Sheet.{pair_place, number_at, version_in, shuffle_at}
use Rattle.appending.proofs.put_raised.Goals as goal

pub loop-j-init : goal.loop-j-init
loop-j-init c = pieces_none _ (bytes 2) _ _

pub overflow_add-drawn : goal.overflow_add-drawn
overflow_add-drawn c =
    let small : c.number-drawn.result < 256 ^ 2 = rw c.number-drawn.ensures (big_endian_lt _ _ 2 (λ j. (c.type_inv.sheet j).fits)) in
    omega arith

pub loop-j-preserved : goal.loop-j-preserved
unfolding number_at
loop-j-preserved c =
    let due : c.pair_place-from.result ≡ pair_place (version_in c.args.sheet.now) c.args.n =
    c.pair_place-from.ensures.0 ∙ ap (λ v. pair_place v c.args.n) c.requires.2 in
    let drawn : c.number-drawn.result ≡ shuffle_at c.args.sheet.now c.args.n c.loop-j.j =
    rw (← due) c.number-drawn.ensures in
    let s = c.args in
    let l = c.loop-j in
    pieces_more _ (bytes 2) _ _ 2 _ _ _ (length-bytes 2) (omega (arith, c.requires)) l.invariant
    (c.put.ensures ∙ ap (λ (x : ℕ). stored (s.at + 2 * l.j) (bytes 2 (x + s.more)) l.out) drawn)
    c.put.auto.out
