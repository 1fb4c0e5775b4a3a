-- Document 01's number and values for each case of joining's answer. Assumes nothing.
use Rattle.std.specs.Prelude.{ℕ, Result, Ok, Err}
use Rattle.refusal.specs.Answer.{Answer, finished, refused}
use Rattle.refusal.specs.Number.{number_of}
use Rattle.refusal.specs.declared.Refused.{Refused}

-- "length as with the writer"; "a sheet's own refusal has its place in that sheet; 11, 12 and 9 have place 0"
unfoldable pub answer_of : Result ℕ Refused → Answer ℕ
answer_of (Ok n) = finished n
answer_of (Err r) = refused (number_of r.why) r.place
