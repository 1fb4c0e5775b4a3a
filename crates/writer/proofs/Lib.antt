-- `Pieces`: the head, the pairs and the shuffle are a sheet. `Judged`: what the checks found is the pool's first fault. `Answered`: what
-- writing answers and leaves, by what was found.
pub mod Pieces
pub mod Judged
pub mod Answered
