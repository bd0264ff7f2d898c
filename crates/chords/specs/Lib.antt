-- The next chord that names a channel,
-- as a number that a caller can hold.
pub mod Naming
