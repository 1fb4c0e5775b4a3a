-- "Tally": what the gates of planning did. Assumes nothing.
use Rattle.std.specs.Prelude.{ℕ, ◌+◌}

pub record Tally : Type 0 where
  pub comparisons : ℕ
  pub products : ℕ
  pub rounds : ℕ

abbrev pub tally : ℕ → ℕ → ℕ → Tally
tally c p r = record { comparisons = c; products = p; rounds = r }

-- "Each step raises it": by so many comparisons and products
unfoldable pub raise : ℕ → ℕ → Tally → Tally
raise c p t = tally (t.comparisons + c) (t.products + p) t.rounds

-- "Rounds: one each"
unfoldable pub next_round : Tally → Tally
next_round t = tally t.comparisons t.products (t.rounds + 1)
