-- The sums over the tallies, as the library has them.
pub mod SumLaws
