-- The laws of the gates; a pick in signed words; is a place one of three?
pub mod Gates
pub mod Picked
pub mod Readout
