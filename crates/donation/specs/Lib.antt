-- Document 01's 'Compatibility and weight' of one donor and one patient, with 02's mismatches, by any points. Believe `Compatibility` and `Weight`: the
-- contracts cite them, with `pool`'s `Points`. `Promises` has statements on M, on mismatches and on W.
pub mod Compatibility
pub mod Weight
pub mod Promises
