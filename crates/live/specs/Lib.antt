-- Document 02's live pool. Believe `Live`, `Suitable`, `Faults` and `Calls`, which the contracts cite, with `Answers` for the answer and `Lent` for what is lent;
-- and `Lists`: a list of calls, and what a pool holds by it. `Faultless` says again what has no fault, `Promises` has the statements, `Examples` the numbers.
pub mod Live
pub mod Suitable
pub mod Faults
pub mod Calls
pub mod Answers
pub mod Lent
pub mod Lists
pub mod Faultless
pub mod Promises
pub mod Examples
