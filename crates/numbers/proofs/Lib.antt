-- `Own`: the promises of the numbers.
pub mod Own
