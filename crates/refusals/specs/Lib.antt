-- What every board call tests first, and what a call says and leaves.
pub mod Judged
pub mod Rows
pub mod Held
pub mod Calls
