-- `Decimal`: laws of numbers in decimal. `Numerals`: what is printed of a number is its decimal, and no other text is. `Puts`: texts that are put one
-- after another. `Lines`: a line's parts.
pub mod Decimal
pub mod Numerals
pub mod Puts
pub mod Lines
