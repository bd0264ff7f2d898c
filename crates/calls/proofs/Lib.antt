-- Laws of the public calls.
pub mod PublicLaws
pub mod OpenLaws
pub mod ReadLaws
pub mod SenderRows
pub mod ListReads
