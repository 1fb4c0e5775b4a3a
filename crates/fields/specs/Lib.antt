-- `Lent`: the lists that a value of the struct lends.
pub mod Lent
