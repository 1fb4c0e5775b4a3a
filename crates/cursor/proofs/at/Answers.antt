-- `cursor::at` meets its contract: a triple, a two, or none. Assumes nothing.
use Prim.Native.Nat.{ℕ, ◌-◌}
use mathlib.Core.Path.{sym, subst}
use native.Mathlib.Omega.{arith}
use Rattle.cursor.specs.Cursor.{TwoAt}
use Rattle.cursor.proofs.Order.{past}
use Rattle.cursor.proofs.Number.{count_is}
use Rattle.cursor.proofs.Placed.{two_placed}
use Rattle.cursor.proofs.at.Goals as goal

pub returns-then-k-triples-2 : goal.returns-then-k-triples-2
returns-then-k-triples-2 c =
    let else1 = c in
    let start = else1 in
    let triples = else1.triples-triples.ensures.1 in
    two_placed _ start.requires.0 _ _ (omega (arith, triples, else1.if-k-triples.false))
    (subst (λ (t : ℕ). TwoAt start.args.n c.two_at.result.u c.two_at.result.v (start.args.k - t)) triples c.two_at.ensures.0)
    c.two_at.ensures.1

pub returns : goal.returns
returns c =
    let triples = c in
    let start = triples in
    sym (past _ _ (omega (arith, triples.triples-triples.ensures.1, c.twos.ensures.1, count_is start.args.n, c.if-k-triples-2.false)))
