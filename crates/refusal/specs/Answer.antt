-- "A finished result or a refusal": what a call answers, and what it leaves in everything lent. Assumes nothing.
use Rattle.std.specs.Prelude.{ℕ}
use Rattle.refusal.specs.Fault.{Fault, none, fault}

-- a result, or a refusal's number and place
pub data Answer (Result : Type 0) : Type 0 where
  finished : Result → Answer Result
  refused : ℕ → ℕ → Answer Result

-- the answer, and the later contents of everything lent
pub record Outcome (Result Lent : Type 0) : Type 0 where
  pub answer : Answer Result
  pub lent : Lent

abbrev pub outcome : {Result Lent : Type 0} → Answer Result → Lent → Outcome Result Lent
outcome a l = record { answer = a; lent = l }

-- "A refusal leaves all lent memory unchanged": with no fault the result and what is filled, else the refusal and what there was
unfoldable pub unless : {Result Lent : Type 0} → Fault → Result → Lent → Lent → Outcome Result Lent
unless none result new old = outcome (finished result) new
unless (fault k o) result new old = outcome (refused k o) old
