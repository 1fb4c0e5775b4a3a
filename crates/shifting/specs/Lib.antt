-- `Preconditions`: what the steps ask of their tables. `Without`: what they leave in a table, whatever stands in it.
pub mod Preconditions
pub mod Without
