-- Laws of what is printed.
pub mod Decimals
pub mod Texts
pub mod Samples
