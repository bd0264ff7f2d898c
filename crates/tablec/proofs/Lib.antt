-- Laws of the bytes that are written.
pub mod Written
