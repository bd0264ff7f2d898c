-- Laws of table bytes: walked from the front, judged by their header,
-- and read by the places of their chords; and of what a chord wants to be equal.
pub mod Walks
pub mod Headers
pub mod Places
pub mod Equalities
