-- How many twos and triples there are, and where the one of a number begins.
pub mod Counting
