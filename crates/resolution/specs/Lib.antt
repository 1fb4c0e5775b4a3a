-- `Records`: cycles resolved, and partners edge by edge. `Preconditions`: what resolution asks of its arguments.
pub mod Records
pub mod Preconditions
