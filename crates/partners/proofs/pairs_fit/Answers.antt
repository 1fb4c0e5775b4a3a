-- `partners::pairs_fit` meets its contract. Assumes nothing.
use Prim.Native.Nat.{ℕ, ◌+◌}
use mathlib.Core.Path.{◌≡◌, sym, ap}
use mathlib.Core.List.{flatten}
use native.Mathlib.Omega.{arith}
use borrow.Author.Tests.{le-leb, lt-leb}
use lib.ListN.{length}
use Rattle.laws.specs.Below.{table}
use Rattle.partners.specs.Pairs.{pair_line, pair_lines}
use Rattle.text.proofs.Lines.{length_none, length_texts, texts_le}
use Rattle.partners.proofs.pairs_fit.Goals as goal

pub returns-then-room-used : goal.returns-then-room-used
returns-then-room-used c = sym (lt-leb _ c.args.room (omega (arith, c.if-room-used.true)))

pub loop-i-init : goal.loop-i-init
loop-i-init c = omega (arith, length_none (pair_line c.args.n c.args.ids.now c.args.donors.now c.args.recipients.now))

pub returns-then-left-line : goal.returns-then-left-line
unfolding pair_lines
returns-then-left-line c =
    let i = c.loop-i.i in
    let line = pair_line c.args.n c.args.ids.now c.args.donors.now c.args.recipients.now in
    sym (lt-leb _ c.args.room (omega (arith, length_texts line i, texts_le line (i + 1) c.args.n (omega arith), c.pair_length-line.ensures)))

pub loop-i-preserved : goal.loop-i-preserved
loop-i-preserved c =
    omega (arith, length_texts (pair_line c.args.n c.args.ids.now c.args.donors.now c.args.recipients.now) c.loop-i.i, c.pair_length-line.ensures)

pub returns : goal.returns
unfolding pair_lines
returns c =
    let e : c.loop-i.i ≡ c.args.n = omega arith in
    let f = ap (λ (i : ℕ). length (flatten (table i (pair_line c.args.n c.args.ids.now c.args.donors.now c.args.recipients.now)))) e in
    sym (le-leb _ c.args.room (omega arith))
