-- `Lending`: what a walk lends for a call, and how it comes back. `Walking`: what a walk uses of the toolchain's logic.
pub mod Lending
pub mod Walking
