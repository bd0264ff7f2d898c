-- Laws of what the reads answer.
pub mod Sums
pub mod QuietLaws
pub mod BoardLaws
