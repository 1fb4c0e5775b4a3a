-- Document 01's building of M and W, with 02's points. Believe `Building`: the contract of `build` cites it, with `Answers` for the answer.
-- `Promises` has the statements.
pub mod Building
pub mod Answers
pub mod Promises
