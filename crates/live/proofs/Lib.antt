-- `Room`, `Sizes`, `Faults`: what the calls check, of the tables' room, of their sizes and numbers, and of what is stored and a pair; `CallFaults`: all that
-- each call checks. `Tables`: the tables with a pair more or less. `Suitable`: the numbers of donors that suit. `Promised`: the promises of the calls.
-- `Lists`: what a list of calls leaves. `Held`: the theorems on every list of calls from an empty pool. `Examples`: a list in numbers.
pub mod Room
pub mod Sizes
pub mod Faults
pub mod CallFaults
pub mod Tables
pub mod Suitable
pub mod Promised
pub mod Lists
pub mod Held
pub mod Examples
