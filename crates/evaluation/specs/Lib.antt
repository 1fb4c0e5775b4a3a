-- What evaluation asks of its arguments; a cycle's weight by its edges' entries.
pub mod Preconditions
pub mod Entries
