-- What the checks ask of their arguments.
pub mod Preconditions
