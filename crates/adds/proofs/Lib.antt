-- Laws of an add.
pub mod RefusalLaws
pub mod MessageLaws
pub mod AddLaws
