-- What refuses a call by itself.
pub mod Refused
