-- What refuses an add.
pub mod Refusals
