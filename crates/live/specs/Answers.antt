-- Document 01's number for each case of an answer, and a pair as the definitions have it. Assumes nothing.
use Rattle.std.specs.Prelude.{Result, Ok, Err}
use Rattle.refusal.specs.Answer.{Answer, finished, refused}
use Rattle.refusal.specs.Number.{number_of}
use Rattle.pool.specs.Pool.{Pair}
use Rattle.refusal.specs.declared.Refusal.{Refusal}
use Rattle.live.specs.declared.Pair.{Pair as Struct}

-- what each of the three calls answers: it is done, or the refusal
unfoldable pub answer_of : Result Unit Refusal → Answer (Unit {0})
answer_of (Ok _) = finished tt
answer_of (Err why) = refused (number_of why) 0

abbrev pub named : Struct → Pair
named p =
    record {
      id = p.id;
      donor_blood = p.donor_blood;
      patient_blood = p.patient_blood;
      donor_age = p.donor_age;
      patient_age = p.patient_age;
      donor_antigens = p.donor_antigens;
      patient_antigens = p.patient_antigens;
      patient_antibodies = p.patient_antibodies;
    }
