-- Laws of a board's numbers.
pub mod PhaseLaws
pub mod SenderLaws
pub mod StoreLaws
pub mod WalkLaws
pub mod FreshLaws
pub mod Encoded
pub mod DecodeLaws
