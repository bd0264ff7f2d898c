-- Laws of first places and kinds, and of the next chord that names a channel.
pub mod Places
pub mod Naming
