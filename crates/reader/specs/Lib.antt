-- What reading answers in document 01's numbers, and what its steps ask.
pub mod Answers
pub mod Preconditions
