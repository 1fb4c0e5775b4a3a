-- `Places`: the place of the first of the ids that is this one. `Called`: what `withdraw` answers and leaves, by what was found.
pub mod Places
pub mod Called
