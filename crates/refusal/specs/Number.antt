-- "Turned back, by whom it is caused": document 01's number of each refusal. Assumes nothing.
use Rattle.std.specs.Prelude.{ℕ, Result, Ok, Err}
use Rattle.refusal.specs.Fault.{Fault, none, fault}
use Rattle.refusal.specs.declared.Refusal.{Refusal}
use Rattle.refusal.specs.declared.Refusal.TheVariants.{CutOff, WrongField, WrongVersion, TooManyPairs, LeftOver, OutOfRange, RepeatedId, NotAShuffle, TooShort, NotCompatibility}
use Rattle.refusal.specs.declared.Refusal.TheVariants.{SharedId, TooManyTogether, FloorTooHigh, WrongPoints, DifferentPoints, UnknownId, WeightlessEdge}
use Rattle.refusal.specs.declared.Refused.{Refused}

abbrev pub number_of : Refusal → ℕ
number_of CutOff = 1
number_of WrongField = 2
number_of WrongVersion = 3
number_of TooManyPairs = 4
number_of LeftOver = 5
number_of OutOfRange = 6
number_of RepeatedId = 7
number_of NotAShuffle = 8
number_of TooShort = 9
number_of NotCompatibility = 10
-- "Refusals added here and later count as listed in document 01"
number_of SharedId = 11
number_of TooManyTogether = 12
number_of FloorTooHigh = 13
number_of WrongPoints = 14
number_of DifferentPoints = 15
number_of UnknownId = 16
number_of WeightlessEdge = 17

-- a refusal with its place
abbrev pub refused_at : Refusal → ℕ → Refused
refused_at why o = record { why = why; place = o }

-- what a check found, as a fault with a place
unfoldable pub fault_at : ℕ → Result Unit Refusal → Fault
fault_at o (Ok _) = none
fault_at o (Err why) = fault (number_of why) o

-- what a search found that tells a place too
unfoldable pub found_fault : Result Unit Refused → Fault
found_fault (Ok _) = none
found_fault (Err r) = fault (number_of r.why) r.place
