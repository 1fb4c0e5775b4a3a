-- `Counting`: a turn of the loops that count, compare and take out.
pub mod Counting
