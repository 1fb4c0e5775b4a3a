-- `Fault`: what is wrong, and the first of several faults. `Answer`: what a call answers and leaves. `Number`: document 01's number of each refusal. `Promises`: that each has its own.
pub mod Fault
pub mod Answer
pub mod Number
pub mod Promises
