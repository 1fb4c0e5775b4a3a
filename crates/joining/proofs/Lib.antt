-- `Judged`: what joining finds wrong. `Answered`: what joining answers and leaves.
pub mod Judged
pub mod Answered
