-- What clearing asks of its arguments.
pub mod Preconditions
