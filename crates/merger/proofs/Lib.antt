-- Laws of a map and of the merged counts, and of the merged value.
pub mod Walks
pub mod Values
