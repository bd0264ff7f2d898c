-- What a claim does to a list of message records.
pub mod Claims
