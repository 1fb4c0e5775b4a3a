-- `columns::fill_column` meets its contract: from pair to pair the number stands as far apart as the pairs' fields do. Assumes nothing.
use Prim.Native.Nat.{ℕ, ◌+◌, ◌*◌}
use mathlib.Core.Path.{◌≡◌, ap, ◌∙◌}
use mathlib.Core.List.{List}
use native.Mathlib.Omega.{arith}
use Rattle.laws.specs.Below.{table}
use Rattle.laws.specs.Digits.{big_endian}
use Rattle.laws.specs.Lent.{filled}
use Rattle.laws.proofs.Below.{table_cong}
use Rattle.pool.specs.Sheet.{first_pair, pair_size, pair_place}
use Rattle.columns.proofs.fill_column.Goals as goal

-- what stands `at` bytes into each pair's field, where the first field stands as this version says, and the fields stand as far apart as they are long
by_pairs : {A : Type 0} (f : ℕ → A) (version at n said first apart : ℕ) (old new : List A)
    → new ≡ filled (table n (λ i. f (first + at + apart * i))) old
    → first ≡ first_pair said
    → said ≡ version
    → apart ≡ pair_size
    → new ≡ filled (table n (λ i. f (pair_place version i + at))) old
by_pairs f version at n said first apart old new e start v step =
    let s : first ≡ first_pair version = start ∙ ap first_pair v in
    e
    ∙ ap (λ l. filled l old)
    (table_cong n _ _
    (λ i _.
    let there : first + at + pair_size * i ≡ pair_place version i + at = omega arith in
    ap (λ (k : ℕ). f (first + at + k * i)) step ∙ ap f there))

pub returns : goal.returns
returns g c =
    let s = c.args in
    let entry : ℕ → _ = λ p. g.T.Entry.of (big_endian g.T.Entry.BYTES s.b.now p) in
    by_pairs entry s.version s.at s.n _ _ _ s.t.now _ c.fill.ensures c.first_pair.ensures.0 (omega arith) (omega arith)
