-- `Plans`: a plan's text. `Promised`: the examples, and buffers that suffice. `Answered`: what printing answers and leaves, and that this keeps what
-- is promised.
pub mod Plans
pub mod Promised
pub mod Answered
