-- `joining::shared` meets its contract. The loop's invariant: none of the second's pairs passed has an id of the first's. Assumes nothing.
use Prim.Native.Nat.{ℕ, ◌+◌, ◌<◌, ◌^◌}
use mathlib.Core.Path.{◌≡◌, refl, sym, ap, ap₂, ◌∙◌}
use mathlib.Core.List.{List}
use native.Mathlib.Omega.{arith}
use lib.Dec.{eqb, lit≤}
use Rattle.laws.specs.Below.{any_below}
use Rattle.laws.specs.Digits.{big_endian}
use Rattle.laws.proofs.Below.{any_hit, any_more, any_cong}
use Rattle.laws.proofs.Digits.{big_endian_lt}
use Rattle.laws.proofs.Lent.{filled_at}
use Rattle.pool.specs.Sheet.{points_size, pair_place, id_at, pairs_in, pair_at, pair_due}
use Rattle.pool.specs.Joining.{id_in_both}
use Rattle.joining.proofs.shared.Invariants.{again}
use Rattle.joining.proofs.shared.Goals as goal

in_both : (a b : List ℕ) (n m : ℕ) → n ≡ pairs_in a → m ≡ pairs_in b → any_below m (again a n b) ≡ id_in_both a b
unfolding id_in_both
in_both a b n m e f = rw (e, f)

pub fill_column-requires : goal.fill_column-requires
fill_column-requires c =
    let n = c.pairs_in-n.ensures in
    let w = c.requires.0 in (
      omega (arith, n, w.head.few),
      omega arith,
      omega (arith, n, w.nothing_after, ap points_size c.version_in.ensures),
      omega (arith, n, w.head.few),
    )

pub pair_place-requires : goal.pair_place-requires
pair_place-requires c =
    omega (arith, c.pairs_in-m.ensures, c.requires.1.head.few)

pub number-id-requires : goal.number-id-requires
number-id-requires c =
    let due : c.pair_place.result ≡ pair_due c.args.second.now c.loop-j.j =
    c.pair_place.ensures.0 ∙ ap (λ v. pair_place v c.loop-j.j) c.version_in-version.ensures in
    (lit≤ tt, omega (arith, due, c.pairs_in-m.ensures, c.requires.1.nothing_after))

pub loop-j-init : goal.loop-j-init
unfolding any_below
loop-j-init c = refl

pub overflow_cast-id : goal.overflow_cast-id
overflow_cast-id c =
    let small : c.number-id.result < 256 ^ 4 = rw c.number-id.ensures (big_endian_lt _ _ 4 (λ j. (c.type_inv.second j).fits)) in
    omega arith

pub returns-then-among : goal.returns-then-among
unfolding pair_at
returns-then-among c =
    let due : c.pair_place.result ≡ pair_due c.args.second.now c.loop-j.j =
    c.pair_place.ensures.0 ∙ ap (λ v. pair_place v c.loop-j.j) c.version_in-version.ensures in
    let found : c.among.result ≡ again c.args.first.now c.pairs_in-n.result c.args.second.now c.loop-j.j =
    c.among.ensures
    ∙ any_cong _ _ _
    (λ i k. ap₂ eqb
    (filled_at _ _ _ _ c.fill_column.ensures i k
    ∙ ap (λ v. big_endian 4 c.args.first.now (pair_place v i + id_at)) c.version_in.ensures)
    (rw (← due) c.number-id.ensures)) in
    let s = c.args in
    let n = c.pairs_in-n in
    let m = c.pairs_in-m in
    sym
    (any_hit m.result (again s.first.now n.result s.second.now) c.loop-j.j
    (omega arith) (sym found ∙ c.if-among.true))
    ∙ in_both _ _ _ _ n.ensures m.ensures

pub loop-j-preserved : goal.loop-j-preserved
unfolding pair_at
loop-j-preserved c =
    let due : c.pair_place.result ≡ pair_due c.args.second.now c.loop-j.j =
    c.pair_place.ensures.0 ∙ ap (λ v. pair_place v c.loop-j.j) c.version_in-version.ensures in
    let found : c.among.result ≡ again c.args.first.now c.pairs_in-n.result c.args.second.now c.loop-j.j =
    c.among.ensures
    ∙ any_cong _ _ _
    (λ i k. ap₂ eqb
    (filled_at _ _ _ _ c.fill_column.ensures i k
    ∙ ap (λ v. big_endian 4 c.args.first.now (pair_place v i + id_at)) c.version_in.ensures)
    (rw (← due) c.number-id.ensures)) in
    let s = c.args in
    let n = c.pairs_in-n.result in
    any_more c.loop-j.j (again s.first.now n s.second.now) c.loop-j.invariant (sym found ∙ c.if-among.false)

pub returns : goal.returns
returns c =
    let s = c.args in
    let n = c.pairs_in-n in
    let m = c.pairs_in-m in
    let l = c.loop-j in
    let e : l.j ≡ m.result = omega arith in
    sym l.invariant
    ∙ ap (λ (k : ℕ). any_below k (again s.first.now n.result s.second.now)) e
    ∙ in_both _ _ _ _ n.ensures m.ensures
