-- Document 01's 'Rounds' and 'Tally', over any list of subsets. Believe `Places`, `Tally` and `Rounds`; `Promises` has the statements, and `Floorless` the
-- rounds as they were before there was a floor.
pub mod Places
pub mod Tally
pub mod Rounds
pub mod Promises
pub mod Floorless
