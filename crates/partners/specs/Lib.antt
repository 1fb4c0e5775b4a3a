-- Believe `Pairs`: the line of each pair, with its partners. `Preconditions`: tables that can hold a plan's pairs.
pub mod Pairs
pub mod Preconditions
