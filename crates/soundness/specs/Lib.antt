-- The tests of lent columns.
pub mod Tests
