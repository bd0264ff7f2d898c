-- What the program prints.
pub mod Stages
pub mod Prints
