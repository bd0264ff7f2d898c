-- What the first tests of table bytes say,
-- for the tests that come after them; and what a chord wants to be equal.
pub mod Headers
pub mod Equalities
