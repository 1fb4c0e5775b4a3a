-- The theorems of this crate: `Sharing` (what it is to share a place), `Choosing` (choosing by halves gives the choice), `Bound` (the chosen subsets against every rival set),
-- `Tallied` (the tally of rounds), `Floorless` (rounds with floor 0), `Remaining` (the weights that are left), `Examples` (rounds, computed); `Counts` has what they use.
pub mod Counts
pub mod Sharing
pub mod Choosing
pub mod Bound
pub mod Tallied
pub mod Floorless
pub mod Remaining
pub mod Examples
