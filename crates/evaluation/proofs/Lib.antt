-- `Cycles`: the weight of a cycle. `Subsets`: the weight of a subset. `AllWeights`: all of them.
pub mod Cycles
pub mod Subsets
pub mod AllWeights
