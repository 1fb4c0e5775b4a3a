-- `checks::among` meets its contract. Assumes nothing.
use Prim.Native.Nat.{ℕ}
use mathlib.Core.Path.{◌∙◌}
use lib.Dec.{eqb}
use Rattle.laws.proofs.Searched.{any_taken}
use Rattle.checks.proofs.among.Goals as goal

pub returns : goal.returns
returns c = c.contains.ensures.value ∙ any_taken (λ (other : ℕ). eqb other c.args.id) 0 c.args.ids.now c.args.n c.requires
