-- "lends buffers for 40 pairs". Assumes nothing.
use Rattle.std.specs.Prelude.{ℕ}

abbrev pub most : ℕ
most = 40
