-- A sender left in peace finishes.
pub mod Alone
