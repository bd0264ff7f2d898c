-- One call, and a list of calls, on lists that the first tests accept.
pub mod Plays
pub mod Replays
