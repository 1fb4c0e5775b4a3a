-- `Answering`: the text that answers a sheet, and what the call leaves, with `Most`. `Promises`: what is promised of the call. `Examples`: three sheets and
-- their answers.
pub mod Most
pub mod Answering
pub mod Promises
pub mod Examples
