-- Laws of messages by columns, and of the walks over them.
pub mod ListFrom
pub mod Messages
pub mod Firsts
pub mod Ranks
pub mod Oldests
pub mod Walks
pub mod Passed
pub mod Words
pub mod Bytes
pub mod Fits
pub mod Told
pub mod Blocks
pub mod Cleared
