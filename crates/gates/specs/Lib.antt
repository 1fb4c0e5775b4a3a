-- `Counts`: the counts in a result. `Counting`: the tally in code, and the tally of the definitions. `Secrets`: what is in a secret.
pub mod Counts
pub mod Counting
pub mod Secrets
