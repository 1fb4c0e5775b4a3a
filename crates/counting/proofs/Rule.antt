-- "That six times each entry is m × (m − 1) × (m − 2) is shown for the whole table": one test of a table, which the checker computes, and one law that
-- turns it into the rule at each entry. Assumes nothing.
use Prim.Native.Nat.{ℕ, zero, suc, ◌+◌, ◌-◌, ◌*◌, ◌≤◌, ◌<◌}
use mathlib.Core.Bool.{Bool, true, ◌&&◌}
use mathlib.Core.List.{List, [], ◌∷◌}
use mathlib.Core.Path.{◌≡◌, ap, sym, ◌∙◌}
use native.Mathlib.Omega.{arith}
use native.Mathlib.Nat.{add-zero, zero-add}
use borrow.Author.Tests.{eqb-true}
use lib.Dec.{eqb}
use lib.ListN.{length, get_or}
use Rattle.laws.proofs.Below.{and_true}
use Rattle.exchange.proofs.Counted.{count_triples, triples_are}
use Rattle.counting.specs.Counting.{TripleTable, of_size}

-- m × (m − 1) × (m − 2)
abbrev pub ordered : ℕ → ℕ
ordered m = m * (m - 1) * (m - 2)

-- six times each entry is due, where the first is that of m
unfoldable pub six_times : ℕ → List ℕ → Bool
six_times m [] = true
six_times m (x ∷ t) = eqb (6 * x) (ordered m) && six_times (suc m) t

from : (t : List ℕ) (m : ℕ) → six_times m t ≡ true → (i : ℕ) → i < length t → 6 * get_or t i 0 ≡ ordered (m + i)
unfolding six_times
from [] m e i h = absurd (omega arith)
from (x ∷ t) m e zero h =
    eqb-true (6 * x) (ordered m) (and_true (eqb (6 * x) (ordered m)) (six_times (suc m) t) e).0 ∙ ap (λ (k : ℕ). ordered k) (sym (add-zero m))
from (x ∷ t) m e (suc i) h =
    from t (suc m) (and_true (eqb (6 * x) (ordered m)) (six_times (suc m) t) e).1 i (omega arith) ∙ ap (λ (k : ℕ). ordered k) (omega arith)

-- the rule, of a table of 201 entries that passes the test
pub whole : (t : List ℕ) → length t ≡ 201 → six_times 0 t ≡ true → TripleTable t
whole t long e = record {
  entries = long;
  rule = λ m h. from t 0 e m (omega arith) ∙ ap (λ (k : ℕ). ordered k) (zero-add m);
}

-- an entry is the number of triples
pub entry_is : (t : List ℕ) → TripleTable t → (m : ℕ) → m ≤ 200 → get_or t m 0 ≡ of_size 3 m
entry_is t right m h = omega (arith, right.rule m h, count_triples m, triples_are m)
