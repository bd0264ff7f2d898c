-- Laws of the test of senders.
pub mod Places
pub mod Alone
pub mod Lent
