-- What the contracts of `tablemerge` cite.
pub mod Merged
