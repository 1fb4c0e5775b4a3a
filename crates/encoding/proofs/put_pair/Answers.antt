-- `encoding::put_pair` meets its contract: each piece goes where the one before it ends. Assumes nothing.
use mathlib.Core.Path.{refl}
use native.Mathlib.Omega.{arith}
use Rattle.laws.specs.Digits.{bytes}
use Rattle.pool.specs.Sheet.{field, pair_field, id_at, donor_blood_at, donor_antigens_at}
use Rattle.laws.proofs.Lent.{stored_then}
use Rattle.encoding.specs.PairValue.{group_bytes, tissue_bytes}
use Rattle.encoding.proofs.put_pair.Goals as goal

pub returns : goal.returns
unfolding pair_field field group_bytes tissue_bytes bytes
returns c =
    rw (← c.from.ensures)
    (stored_then c.args.at donor_antigens_at _ _ _ _ _ refl (omega (arith, c.requires))
    (stored_then c.args.at donor_blood_at _ _ _ _ _ refl (omega (arith, c.requires))
    (stored_then c.args.at id_at _ _ _ _ _ refl (omega (arith, c.requires)) c.put_start.ensures c.put.ensures)
    c.put_groups.ensures)
    c.put_tissue.ensures)
