-- What the steps of the search ask.
pub mod Preconditions
