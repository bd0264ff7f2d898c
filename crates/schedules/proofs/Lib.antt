-- What a list of public calls comes to.
pub mod PublicCalls
pub mod PublicPeace
pub mod HeldParts
pub mod PublicMerge
pub mod Mixed
pub mod PublicClosing
pub mod PublicSharing
pub mod PublicResting
pub mod Unseen
pub mod Outcomes
