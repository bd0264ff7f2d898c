-- Laws of a look.
pub mod Looking
pub mod Anew
