-- `Turns`: one round after another.
pub mod Turns
