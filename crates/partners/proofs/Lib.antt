-- `Pairs`: a pair's line.
pub mod Pairs
