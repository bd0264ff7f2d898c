-- Laws of the steps that wake and free.
pub mod Freeing
