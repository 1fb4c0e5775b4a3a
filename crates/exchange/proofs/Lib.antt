-- The theorems of this crate, from the leaves up. `Ordered` and `Published`: the published order. `Weighed` and `Evaluated`: the weights of
-- cycles and subsets. `Inverse`: the shuffle and its inverse. `Charged`, `Sets` and `Planned`: the planned cycles against every rival set.
-- `Weightless`: an executable cycle weighs something. `Credited`: the sum that credits the twos. `Counted`: how many twos and triples there are.
-- `Tallied`: the closed form. `Loop` and `Shuffled`: Algorithm 1. `Partners`: donors and recipients. `Checked`: what planning checks. `Guaranteed`: the
-- guarantee for every plan made. `Unread`: W plays no part where M is not 1. `Floors`: floor 0, and a higher floor. `AllPools`: the pools to try.
pub mod Ordered
pub mod Published
pub mod Weighed
pub mod Evaluated
pub mod Inverse
pub mod Charged
pub mod Sets
pub mod Planned
pub mod Weightless
pub mod Credited
pub mod Counted
pub mod Tallied
pub mod Loop
pub mod Shuffled
pub mod Partners
pub mod Checked
pub mod Guaranteed
pub mod Unread
pub mod Floors
pub mod AllPools
