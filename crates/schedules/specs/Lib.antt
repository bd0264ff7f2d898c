-- Public calls one after another.
pub mod Schedules
pub mod InPeace
pub mod Merged
pub mod Mixes
pub mod Closing
pub mod Sharing
pub mod Resting
pub mod Outcomes
