-- The lists that a host lends, and the board that they hold as the model's board.
pub mod Parts
pub mod Layout
pub mod Boards
pub mod Calls
