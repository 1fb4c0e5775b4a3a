-- `Cyclic`: the chosen cycles. `Partnered`: partners, edge by edge. `AllResolved`: one choice after another.
pub mod Cyclic
pub mod Partnered
pub mod AllResolved
