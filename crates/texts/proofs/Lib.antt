-- Laws of the bytes that a written table takes.
pub mod Sizes
