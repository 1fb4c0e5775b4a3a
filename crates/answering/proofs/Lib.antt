-- `Plans`: the plan of some tables, printed. `Pools`: what was read is built and planned. `Sheets`: the answer to a sheet.
pub mod Plans
pub mod Pools
pub mod Sheets
