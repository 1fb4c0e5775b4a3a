-- Planning, under document 01's headings. Believe `Subsets`, `Input`, `Resolution`, `Planning` and `Lent`: the contracts cite them. `Published`,
-- `Algorithm1` and `Faultless` say a second time what the order of subsets, the plan and the refusals are; what they share with the first stands at the
-- head of `Algorithm1`. `Rivals`, `Credit` and `Promises` say what is promised of every plan, `Floors` what the floor changes, and what W-209 turns back;
-- `Pools` has k1 to k12 and other pools, in numbers.
pub mod Subsets
pub mod Input
pub mod Resolution
pub mod Planning
pub mod Lent
pub mod Rivals
pub mod Credit
pub mod Published
pub mod Algorithm1
pub mod Faultless
pub mod Promises
pub mod Floors
pub mod Pools
