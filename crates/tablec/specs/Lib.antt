-- What the contracts of `tablec` cite.
pub mod Encoded
