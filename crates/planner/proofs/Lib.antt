-- `Stepped`: evaluation and all rounds. `MadePlan`: the plan from checked input. `Answered`: the answer and what it leaves.
pub mod Stepped
pub mod MadePlan
pub mod Answered
