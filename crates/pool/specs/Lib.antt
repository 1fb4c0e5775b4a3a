-- Document 01's 'The pool sheet', 'Writer and printout' and 'Turned back', and document 02's W-201 and W-205. Believe `Pool`, `Points`, `Sheet`, `Tables`,
-- `Faults`, `Calls` and `Joining`: the contracts cite them. `Faultless` says a second time, without the search for a fault, what has none of them; `Promises` has the statements,
-- `Joinable` both for joining, and `Examples` tries the order of a pair's numbers and of the points, which points pass, and joined sheets.
pub mod Pool
pub mod Points
pub mod Sheet
pub mod Tables
pub mod Lent
pub mod Faults
pub mod Calls
pub mod Faultless
pub mod Promises
pub mod Joining
pub mod Joinable
pub mod Examples
