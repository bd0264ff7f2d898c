-- Laws of what every board call tests first.
pub mod Parts
pub mod Refusals
pub mod CallLaws
pub mod PhaseBy
pub mod RowLaws
pub mod RowWalks
pub mod SoundNumbers
pub mod HeldLaws
pub mod HeldOnce
