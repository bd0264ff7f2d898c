-- The calls of a host in another language.
pub mod Answers
pub mod Reads
