-- Laws of a step: what it reads, that its phase's function may be called, and which one it is.
pub mod MessageReads
pub mod ReadyLaws
pub mod StateSteps
