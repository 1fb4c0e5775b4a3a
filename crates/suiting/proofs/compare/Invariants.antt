-- `suiting::compare` meets its contract. The loop's invariant: the numbers passed are those counted. Assumes nothing.
use mathlib.Core.Path.{◌≡◌}
use mathlib.Core.Bool.{not}
use lib.Dec.{eqb}
use Rattle.refusal.specs.Fault.{none, refuse, first_below}
use Rattle.pool.specs.Tables.{item_in}
use Rattle.suiting.proofs.compare.Given as goal

abbrev pub invariant-loop-j : goal.invariant-loop-j
invariant-loop-j l = first_below l.j (λ k. refuse 10 0 (not (eqb (item_in l.suitable k) (item_in l.counts k)))) ≡ none
