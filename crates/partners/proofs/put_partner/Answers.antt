-- `partners::put_partner` meets its contract: the dash fits where it stands for none. Assumes nothing.
use mathlib.Core.Path.{ap}
use native.Mathlib.Omega.{arith}
use lib.ListN.{length, length-set}
use Rattle.partners.proofs.Pairs.{partner_none}
use Rattle.partners.proofs.put_partner.Goals as goal

pub bounds-out-at-2 : goal.bounds-out-at-2
bounds-out-at-2 c =
    let e = ap length (partner_none c.args.n c.args.ids.now c.args.who c.if-pair-n.false) in
    omega (arith, c.requires.who_in_bounds, length-set c.args.out.now c.args.at 32)
