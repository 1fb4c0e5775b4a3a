-- `Faults`: what building checks. `Promised`: what is built, and the promise of the call.
pub mod Faults
pub mod Promised
