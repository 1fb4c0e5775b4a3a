-- What is in a secret: proofs may speak of it, and code can't look. Assumes nothing.
use Rattle.std.specs.Prelude.{ℕ}
use Rattle.gates.specs.declared.Secret.{Secret}

abbrev pub value_of : Secret → ℕ
value_of s = s.value
