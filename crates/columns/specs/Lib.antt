-- The lent columns as the model's messages, and what a look tests of them.
pub mod Columns
pub mod Firsts
pub mod Ranks
pub mod MatchColumns
pub mod Words
