-- Laws of a table as a value, seen as the table, of parts of its bytes, and of lists copied.
pub mod Copies
pub mod Views
pub mod Parts
