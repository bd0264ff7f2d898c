-- Laws of senders, of passes and of a job's end.
pub mod StateLaws
pub mod Sizes
