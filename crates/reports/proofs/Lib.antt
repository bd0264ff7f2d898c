-- Laws of the report's lines, printed in parts.
pub mod PartLaws
pub mod BoardLines
pub mod ListLines
pub mod Whole
