-- `Counted`: the ones in a column above a row. `Preconditions`: what counting and taking out ask of the tables.
pub mod Counted
pub mod Preconditions
