-- `Moves`: entries moved down in place. `Numbers`: tables of numbers without one entry, or without one row and one column.
pub mod Moves
pub mod Numbers
