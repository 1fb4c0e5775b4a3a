-- `Rule`: the rule of the table of triples. `Sized`: twos and triples by their size.
pub mod Rule
pub mod Sized
