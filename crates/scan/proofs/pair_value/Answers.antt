-- `scan::pair_value` meets its contract. Assumes nothing.
use mathlib.Core.Path.{◌≡◌, ap, ◌∙◌}
use Rattle.pool.specs.Sheet.{pair_place, pair_at, pair_due}
use Rattle.scan.proofs.Notes.{agree_at}
use Rattle.scan.proofs.pair_value.Goals as goal

pub returns : goal.returns
returns c =
    let e : c.pair_place-o.result ≡ pair_due c.args.b.now c.args.i = c.pair_place-o.ensures.0 ∙ ap (λ v. pair_place v c.args.i) c.requires.1 in
    c.pair.ensures (pair_due c.args.b.now c.args.i) (pair_at c.args.b.now) (rw e (agree_at _ _ _ c.requires.3))
