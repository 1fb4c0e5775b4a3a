-- `Bits`: bits of words, as the machine's operations give them. `Mismatched`: what a mismatch is. `NoOtherCount`: nothing else counts them. `Blood`: the table of four by four is the rule in
-- words. `Compatible`: M. `Points`: the points, and W's bounds.
pub mod Bits
pub mod Mismatched
pub mod NoOtherCount
pub mod Blood
pub mod Compatible
pub mod Points
