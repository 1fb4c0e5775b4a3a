-- `joining::differ` meets its contract. The loop's invariant: none of the points passed differs. Assumes nothing.
use Prim.Native.Nat.{◌+◌, ◌*◌, ◌≤◌}
use mathlib.Core.Path.{◌≡◌, refl, sym, ap, ap₂, ◌∙◌}
use mathlib.Core.Bool.{not}
use native.Mathlib.Omega.{arith}
use borrow.Author.Tests.{eq-eqb, ne_eqb}
use lib.Dec.{eqb, lit≤}
use lib.ListN.{length}
use Rattle.laws.specs.Below.{any_below}
use Rattle.laws.proofs.Below.{any_more}
use Rattle.pool.specs.Points.{point_count}
use Rattle.pool.specs.Sheet.{points_size, number_at, version_in}
use Rattle.pool.proofs.Points.{size_most, count_size}
use Rattle.joining.proofs.Judged.{differs_at, differ_version, differ_point, differ_sound}
use Rattle.joining.proofs.differ.Goals as goal

pub returns-then-version-version_in : goal.returns-then-version-version_in
returns-then-version-version_in c =
    differ_version _ _ (λ e. c.if-version-version_in.true (c.version_in-version.ensures ∙ e ∙ sym c.version_in.ensures))

pub loop-k-init : goal.loop-k-init
unfolding any_below
loop-k-init c =
    let v = c.version_in-version.result in
    (omega (arith, c.point_count-count.ensures, count_size v, size_most v), refl)

pub number-requires : goal.number-requires
number-requires c =
    let same : version_in c.args.first.now ≡ version_in c.args.second.now =
    sym c.version_in-version.ensures ∙ c.if-version-version_in.false ∙ c.version_in.ensures in
    let many : c.point_count-count.result ≡ point_count (version_in c.args.first.now) =
    c.point_count-count.ensures ∙ ap point_count c.version_in-version.ensures in
    let room : (10 + 2 * c.point_count-count.result ≤ length c.args.first.now) × (10 + 2 * c.point_count-count.result ≤ length c.args.second.now) =
    let v = version_in c.args.first.now in (
      omega (arith, many, count_size v, c.requires.0.nothing_after),
      omega (arith, many, count_size v, c.requires.1.nothing_after, ap points_size same),
    ) in
    (lit≤ tt, omega (arith, room.0))

pub number-requires-in-loop-k : goal.number-requires-in-loop-k
number-requires-in-loop-k c =
    let same : version_in c.args.first.now ≡ version_in c.args.second.now =
    sym c.version_in-version.ensures ∙ c.if-version-version_in.false ∙ c.version_in.ensures in
    let many : c.point_count-count.result ≡ point_count (version_in c.args.first.now) =
    c.point_count-count.ensures ∙ ap point_count c.version_in-version.ensures in
    let room : (10 + 2 * c.point_count-count.result ≤ length c.args.first.now) × (10 + 2 * c.point_count-count.result ≤ length c.args.second.now) =
    let v = version_in c.args.first.now in (
      omega (arith, many, count_size v, c.requires.0.nothing_after),
      omega (arith, many, count_size v, c.requires.1.nothing_after, ap points_size same),
    ) in
    (lit≤ tt, omega (arith, room.1))

pub returns-then-number : goal.returns-then-number
unfolding number_at
returns-then-number c =
    let same : version_in c.args.first.now ≡ version_in c.args.second.now =
    sym c.version_in-version.ensures ∙ c.if-version-version_in.false ∙ c.version_in.ensures in
    let many : c.point_count-count.result ≡ point_count (version_in c.args.first.now) =
    c.point_count-count.ensures ∙ ap point_count c.version_in-version.ensures in
    let differs : differs_at c.args.first.now c.args.second.now c.loop-k.k ≡ not (eqb c.number.result c.number-in-loop-k.result) =
    ap not (ap₂ eqb (sym c.number.ensures) (sym c.number-in-loop-k.ensures)) in
    differ_point _ _ same _ many c.loop-k.k (omega arith) (differs ∙ ap not (ne_eqb _ _ c.if-number.true))

pub loop-k-preserved : goal.loop-k-preserved
unfolding number_at
loop-k-preserved c =
    let differs : differs_at c.args.first.now c.args.second.now c.loop-k.k ≡ not (eqb c.number.result c.number-in-loop-k.result) =
    ap not (ap₂ eqb (sym c.number.ensures) (sym c.number-in-loop-k.ensures)) in
    (c.loop-k.invariant.0, any_more c.loop-k.k _ c.loop-k.invariant.1 (differs ∙ ap not (eq-eqb _ _ c.if-number.false)))

pub returns : goal.returns
returns c =
    let same : version_in c.args.first.now ≡ version_in c.args.second.now =
    sym c.version_in-version.ensures ∙ c.if-version-version_in.false ∙ c.version_in.ensures in
    let many : c.point_count-count.result ≡ point_count (version_in c.args.first.now) =
    c.point_count-count.ensures ∙ ap point_count c.version_in-version.ensures in
    differ_sound _ _ same _ many c.loop-k.k (omega arith) c.loop-k.invariant.1
