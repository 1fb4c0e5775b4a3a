-- What the function that writes a plan's records asks.
pub mod Copying
