-- A lent table that is filled to its end, and what is not filled yet. Assumes nothing.
use Prim.Native.Nat.{ℕ}
use mathlib.Core.Path.{◌≡◌, sym, ap, ◌∙◌}
use mathlib.Core.List.{List, ◌++◌, append-nil}
use native.Mathlib.Nat.{add-zero}
use lib.ListN.{length, get_or, drop}
use lib.Seq.{drop-length, get_or-append-add, get_or-drop}
use Rattle.laws.specs.Below.{table}
use Rattle.laws.specs.Lent.{filled}
use Rattle.laws.proofs.Below.{length-table}
use Rattle.laws.proofs.Lent.{Filling}

pub filled_whole : {A : Type 0} (new old : List A) → length new ≡ length old → filled new old ≡ new
unfolding filled
filled_whole {A} new old e = rw (e, drop-length) (append-nil new)

-- the first that is not filled
first_left : {A : Type 0} (new old : List A) (d : A) → get_or (filled new old) (length new) d ≡ get_or old (length new) d
unfolding filled
first_left {A} new old d =
    ap (λ (k : ℕ). get_or (new ++ drop (length new) old) k d) (sym (add-zero (length new)))
    ∙ get_or-append-add new (drop (length new) old) 0 d ∙ get_or-drop (length new) old 0 d ∙ ap (λ (k : ℕ). get_or old k d) (add-zero (length new))

pub filling_next : (i : ℕ) (f : ℕ → ℕ) (old t : List ℕ) → Filling i f old t → get_or t i 0 ≡ get_or old i 0
filling_next i f old t w =
    ap (λ (l : List ℕ). get_or l i 0) w.holds ∙ (rw (length-table i f) at (first_left (table i f) old 0))
