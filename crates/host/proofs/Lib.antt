-- Laws of the reads of a host.
pub mod ReadLaws
pub mod Ways
