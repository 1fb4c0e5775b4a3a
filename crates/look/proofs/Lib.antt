-- What reading's promise gives to whoever prints the pool.
pub mod Few
