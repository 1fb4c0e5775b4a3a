-- `Fields`: which fault a field or the head has, by how far the check came.
pub mod Fields
