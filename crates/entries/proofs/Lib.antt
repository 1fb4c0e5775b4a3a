-- `Bounds`: what entries and weights are at most. `Weighed`: the weight of a cycle.
pub mod Bounds
pub mod Weighed
