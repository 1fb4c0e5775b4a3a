-- Document 01's number for each case of building's answer. Assumes nothing.
use Rattle.std.specs.Prelude.{Result, Ok, Err}
use Rattle.refusal.specs.Answer.{Answer, finished, refused}
use Rattle.refusal.specs.Number.{number_of}
use Rattle.refusal.specs.declared.Refusal.{Refusal}

-- "planning and building give the number"
unfoldable pub answer_of : Result Unit Refusal → Answer (Unit {0})
answer_of (Ok _) = finished tt
answer_of (Err why) = refused (number_of why) 0
