-- What a function has written into the lent buffer.
pub mod Printed
