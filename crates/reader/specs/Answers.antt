-- Document 01's number and values for each case of the reader's answer. Assumes nothing.
use Rattle.std.specs.Prelude.{Result, Ok, Err}
use Rattle.refusal.specs.Answer.{Answer, finished, refused}
use Rattle.refusal.specs.Number.{number_of}
use Rattle.pool.specs.Calls.{Head, head}
use Rattle.refusal.specs.declared.Refused.{Refused}
use Rattle.reader.specs.declared.Head.{Head as Found}

-- "Reading gives the number and the offset of the field"; accepted, it gives the version and N
unfoldable pub answer_of : Result Found Refused → Answer Head
answer_of (Ok h) = finished (head h.version h.pairs)
answer_of (Err r) = refused (number_of r.why) r.place
