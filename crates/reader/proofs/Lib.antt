-- `Columns`: the tables, each filled from the sheet. `Answered`: what reading answers and leaves, by what was found.
pub mod Columns
pub mod Answered
