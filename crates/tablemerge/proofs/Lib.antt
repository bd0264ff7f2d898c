-- Laws of a merge into a buffer for the longest table.
pub mod Outcomes
