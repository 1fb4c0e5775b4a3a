-- `Order`: the cursor goes through the published order. `Standing`: what a cursor stands at. `Following`: its number, and
-- the next. `Number`: how many subsets there are. `Placed`: numbers and places by the counts of twos and triples.
pub mod Order
pub mod Standing
pub mod Following
pub mod Number
pub mod Placed
