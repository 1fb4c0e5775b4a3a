-- `resolution::alone` meets its contract. The loop's invariant: the entries passed are n. Assumes nothing.
use Prim.Native.Nat.{ℕ}
use Rattle.laws.proofs.Lent.{Filling}
use Rattle.resolution.proofs.alone.Given as goal

abbrev pub invariant-loop-partner : goal.invariant-loop-partner
invariant-loop-partner l = Filling l.partner-index (λ (k : ℕ). l.n) l.initial.partners l.partners
