-- `Found`: what the checks find, as document 02's faults. `Begun`: what starting answers and leaves.
pub mod Found
pub mod Begun
