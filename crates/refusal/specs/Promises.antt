-- What is promised of the refusals' numbers, as a statement. Assumes nothing.
use Rattle.std.specs.Prelude.{◌≡◌}
use Rattle.refusal.specs.Number.{number_of}
use Rattle.refusal.specs.declared.Refusal.{Refusal}

-- each refusal has a number of its own, so that an answer's number says its case
abbrev pub OwnNumbers : Type 0
OwnNumbers = (a b : Refusal) → number_of a ≡ number_of b → a ≡ b
