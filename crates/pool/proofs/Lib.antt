-- `Lengths`, `Rooms`: of fields and sheets, and of lent tables. `Points`, `Fields`, `Pairs`, `PairFaults`: each fault, and what has none. `Reading`,
-- `Writing`: the faults of a sheet and of a pool; `ReadingCall`, `WritingCall`: the promises of the two calls. `Written`, `Read`: what is written is read back, and what was read is written back. `RoundTrip`: both, for the calls.
-- `Joined`, `Joining`: the sheet of two sheets, and the promise of the call. `Examples`: what is computed.
pub mod Points
pub mod Lengths
pub mod Rooms
pub mod Fields
pub mod Pairs
pub mod PairFaults
pub mod Reading
pub mod ReadingCall
pub mod Writing
pub mod WritingCall
pub mod Read
pub mod Written
pub mod RoundTrip
pub mod Joined
pub mod Joining
pub mod Examples
