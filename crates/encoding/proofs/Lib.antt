-- `Fields`: a field of two-byte numbers, of its start and its numbers.
pub mod Fields
