-- What looking at the lent tables asks; the weight of a cycle by them.
pub mod Preconditions
