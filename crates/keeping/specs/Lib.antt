-- `Preconditions`: what the checks over all pairs ask of their tables.
pub mod Preconditions
