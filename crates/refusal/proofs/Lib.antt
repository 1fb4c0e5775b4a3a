-- Laws of `specs/Fault.antt`, `specs/Answer.antt` and `specs/Number.antt`.
pub mod Faults
pub mod Numbers
