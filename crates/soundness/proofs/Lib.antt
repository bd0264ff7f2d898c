-- Laws of the tests of lent columns.
pub mod Each
pub mod Columns
pub mod Messages
pub mod Matches
pub mod Chunks
