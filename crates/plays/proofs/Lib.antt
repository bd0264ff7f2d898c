-- A call, and calls played one after another.
pub mod PlayLaws
pub mod Turns
pub mod ScheduleLaws
