-- What refuses a call by itself, and what a call does that is not refused.
pub mod RefusedLaws
pub mod AfterLaws
pub mod AddLaws
pub mod StepLaws
pub mod CloseLaws
