-- The words that every other definition is written in.
pub mod Below
pub mod Digits
pub mod Lent
