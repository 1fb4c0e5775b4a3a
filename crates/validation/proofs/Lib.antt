-- `Faults`: what the checks find, as document 01's faults.
pub mod Faults
pub mod Anywhere
