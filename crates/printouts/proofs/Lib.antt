-- What the program prints is the model's printout.
pub mod SessionLaws
pub mod StageLaws
pub mod Beginnings
pub mod TurnLaws
pub mod Program
