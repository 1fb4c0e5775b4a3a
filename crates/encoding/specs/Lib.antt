-- A pair by its fields, and the parts of its value.
pub mod PairValue
