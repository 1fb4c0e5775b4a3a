-- What planning with buffers for `most` pairs asks, and what it leaves.
pub mod Preconditions
