-- What joining answers in document 01's numbers.
pub mod Answers
