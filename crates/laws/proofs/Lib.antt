-- `Below`: tables, tests and counts over 0 .. n - 1. `Lists`: parts of a list, and lists joined. `Products`: products with a bound. `Digits`: numbers in bytes. `Lent`: tables that are filled. `Whole`: those that are filled to their end.
pub mod Below
pub mod Lists
pub mod Products
pub mod Digits
pub mod Lent
pub mod Whole
pub mod Searched
