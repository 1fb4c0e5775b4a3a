-- A cursor over the published order, and its number.
pub mod Cursor
pub mod Promises
