-- The parts of the report at the end of the run.
pub mod Parts
