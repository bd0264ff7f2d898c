-- A read line as the model's.
pub mod Views
