-- Laws of the lent lists.
pub mod PartLaws
pub mod LayoutLaws
pub mod SenderLaws
