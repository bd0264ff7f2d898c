-- What the contracts of `texts` and of the programs on tables cite.
pub mod Counts
