-- Laws of a table written: its lists, the number that refuses it, the sections stored in turn,
-- and that it survives being written and read.
pub mod Chords
pub mod Refusals
pub mod Writes
pub mod RoundTrip
