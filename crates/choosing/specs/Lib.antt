-- What choosing gives, as the definitions have it, and what it asks of its arguments.
pub mod Parts
