-- What a read answers as the model's message and match, and what it takes for granted.
pub mod Reads
