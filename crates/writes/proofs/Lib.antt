-- What a move writes, from small to large.
-- The columns and the senders, against the model.
pub mod Changes
-- The same in the lists.
pub mod Parts
pub mod Places
pub mod Signals
