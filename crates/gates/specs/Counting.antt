-- The tally in code, as the definitions have it; that it is raised, and that it has room. Assumes nothing.
use Rattle.std.specs.Prelude.{ℕ, ◌+◌, ◌^◌, ◌<◌, ◌≡◌}
use Rattle.greedy.specs.Tally as Tallies
use Rattle.gates.specs.declared.Tally.{Tally}

-- the definitions' record
abbrev pub counted : Tally → Tallies.Tally
counted t = Tallies.tally t.comparisons t.products t.rounds

-- u is t raised by c comparisons and p products, count by count
pub record Raised (c p : ℕ) (t u : Tally) : Type 0 where
  pub comparisons : u.comparisons ≡ t.comparisons + c
  pub products : u.products ≡ t.products + p
  pub rounds : u.rounds ≡ t.rounds

-- t can be raised so: no count outgrows its 64 bits
pub record TallyRoom (c p : ℕ) (t : Tally) : Type 0 where
  pub comparisons : t.comparisons + c < 2 ^ 64
  pub products : t.products + p < 2 ^ 64
