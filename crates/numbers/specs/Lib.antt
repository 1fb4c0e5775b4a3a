-- `Numbers`: the numbers in which an exported call answers. `Promises`: that no two answers of a call have the same.
pub mod Numbers
pub mod Promises
