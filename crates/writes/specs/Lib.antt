-- What a move is, and what it writes.
pub mod Writes
pub mod Moves
pub mod Written
