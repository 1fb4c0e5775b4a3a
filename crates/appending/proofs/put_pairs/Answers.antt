-- `appending::put_pairs` meets its contract: the bytes of the pairs' fields are what writing the pairs gives. Assumes nothing.
use mathlib.Core.Path.{ap, ◌∙◌}
use mathlib.Core.List.{List}
use Prim.Native.Nat.{ℕ}
use Rattle.laws.specs.Lent.{stored}
use Rattle.appending.proofs.Pieces.{pairs_there}
use Rattle.appending.proofs.put_pairs.Goals as goal

pub returns : goal.returns
returns c =
    c.put_bytes.ensures
    ∙ ap (λ (l : List ℕ). stored c.args.at l c.args.out.now)
    (pairs_there c.args.sheet.now c.args.version c.args.n _ _ (λ j. (c.type_inv.sheet j).fits) c.requires.0 c.requires.1 c.requires.2
    c.first_pair-from.ensures.0 c.pair_place-to.ensures.0)
