-- Document 01's number and values for each case of printing's answer. Assumes nothing.
use Rattle.std.specs.Prelude.{ℕ, Result, Ok, Err}
use Rattle.refusal.specs.Answer.{Answer, finished, refused}
use Rattle.refusal.specs.Number.{number_of}
use Rattle.refusal.specs.declared.Refusal.{Refusal}

-- the text's length; a refusal's place is 0
unfoldable pub answer_of : Result ℕ Refusal → Answer ℕ
answer_of (Ok n) = finished n
answer_of (Err why) = refused (number_of why) 0
