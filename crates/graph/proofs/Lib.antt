-- `Rows`: tables filled row by row.
pub mod Rows
