-- Believe `Graph`: the tables M and W, row by row. `Sources` has the fields that each is made of, and `Lent` what is lent, as a contract has them;
-- `Preconditions` has what the steps ask.
pub mod Graph
pub mod Lent
pub mod Preconditions
pub mod Sources
