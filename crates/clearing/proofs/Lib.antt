-- `Kept`: one subset after the choice. `AllCleared`: all of them.
pub mod Kept
pub mod AllCleared
