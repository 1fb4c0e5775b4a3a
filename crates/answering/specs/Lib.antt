-- What the steps of answering ask; what the call answers is in `answers`.
pub mod Preconditions
