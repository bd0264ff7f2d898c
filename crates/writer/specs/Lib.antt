-- The tests of a value that is to be written,
-- and what its writing asks for.
pub mod Writes
