-- What the test of senders sees of a board.
pub mod Seen
