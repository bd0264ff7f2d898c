-- A close, written to the numbers of a board.
pub mod FlagLaws
