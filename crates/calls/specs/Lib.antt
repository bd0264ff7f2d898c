-- The public calls.
pub mod Reads
pub mod Opens
pub mod Calls
