-- Believe `Printed`: the printed plan and the printed refusal, as bytes; `Calls`: what printing answers, and what it leaves in the lent buffer;
-- `Answers`: document 01's number and values for each case of an answer; `Lent`: the arguments as one value. `Promises` has the statements.
pub mod Printed
pub mod Calls
pub mod Answers
pub mod Lent
pub mod Promises
