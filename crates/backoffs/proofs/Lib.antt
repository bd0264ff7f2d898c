-- The test of a backoff table.
pub mod PassLaws
