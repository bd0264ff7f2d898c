-- A table as a value:
-- how it is seen as the model's, and which value is read.
pub mod Views
