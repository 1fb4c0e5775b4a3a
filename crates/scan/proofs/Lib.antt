-- `Sheet`: which fault a sheet has, by how far the search came. `Notes`: the ids noted on the way.
pub mod Sheet
pub mod Notes
