-- What the program does with the bytes of its input.
pub mod Serves
