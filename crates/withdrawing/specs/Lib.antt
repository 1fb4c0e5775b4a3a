-- `Preconditions`: what taking a pair out asks of the tables.
pub mod Preconditions
