-- `Answers`: the answer of planning in document 01's numbers. `Preconditions`: what the steps ask of their arguments. `ByValue`: planning with its
-- records by value.
pub mod Answers
pub mod Preconditions
pub mod ByValue
