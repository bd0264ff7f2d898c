-- The declared senders and effects as the model's, and what the builders make.
pub mod Views
pub mod Builders
