-- `Halves`: the winner by halves. `Joined`: a join. `Won`: the winner of a part. `Tested`: the final test.
pub mod Halves
pub mod Joins
pub mod Winners
pub mod Tested
pub mod InRound
