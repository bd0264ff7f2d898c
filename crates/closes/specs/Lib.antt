-- What a close leaves.
pub mod Closed
