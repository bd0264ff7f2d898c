-- What the steps of a recorded match rely on.
pub mod Holds
