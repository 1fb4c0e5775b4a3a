-- `Judged`: what is found, as document 02's faults. `Answered`: what the call answers and leaves.
pub mod Judged
pub mod Answered
