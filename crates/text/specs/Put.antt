-- What a step of printing leaves. Assumes nothing.
use Rattle.std.specs.Prelude.{ℕ, ◌+◌, ◌≡◌, List, length}
use Rattle.laws.specs.Lent.{stored}

-- the text stands in the buffer from `at` on, up to `end`, and nothing else has changed
pub record Put (at : ℕ) (text old new : List ℕ) (end : ℕ) : Type 0 where
  pub holds : new ≡ stored at text old
  pub ends : end ≡ at + length text
