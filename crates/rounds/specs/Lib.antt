-- What the rounds ask of their arguments.
pub mod Preconditions
