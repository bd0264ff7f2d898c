-- Laws of the messages that are to be told, and of the steps that consume and tell.
pub mod Telling
pub mod Consuming
