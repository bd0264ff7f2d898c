-- The board as plain numbers.
pub mod Numbers
pub mod Fits
pub mod Decoded
pub mod Fresh
