-- `appending::put_joined` meets its contract: each piece goes where the one before it ends. Assumes nothing.
use Prim.Native.Nat.{◌+◌, ◌≤◌}
use mathlib.Core.Path.{◌≡◌, sym, ap, ap₂, ◌∙◌}
use native.Mathlib.Omega.{arith}
use lib.ListN.{length}
use Rattle.pool.specs.Sheet.{points_size, sheet_length, version_in}
use Rattle.pool.proofs.Joined.{length_joined}
use Rattle.appending.proofs.Pieces.{pieces_written}
use Rattle.appending.proofs.put_joined.Goals as goal

pub returns : goal.returns
returns c =
    let first-version : c.version_in-version.result ≡ version_in c.args.first.now =
    c.version_in-version.ensures in
    let long : sheet_length c.version_in-version.result (c.pairs_in-n.result + c.pairs_in-m.result) ≤ length c.args.out.now =
    omega (arith, c.requires.1, c.pairs_in-n.ensures, c.pairs_in-m.ensures, ap points_size first-version) in
    let n = c.pairs_in-n.ensures in
    let m = c.pairs_in-m.ensures in (
      c.sheet_length.ensures.0 ∙ sym (length_joined _ _ ∙ ap₂ sheet_length (sym first-version) (omega (arith, n, m))),
      pieces_written _ _ _ _ _ first-version n m _ _ _ _ _ _ _ _ long _ _ _ c.first_pair.ensures.0 c.pair_place.ensures.0
          c.pair_place-at.ensures.0 (rw (← c.from.ensures) c.put_head.ensures) c.put_points.ensures c.put_pairs.ensures c.put_pairs-2.ensures
          c.put_start.ensures c.put_raised.ensures c.put_raised-2.ensures,
    )
