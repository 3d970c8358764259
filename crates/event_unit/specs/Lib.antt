pub mod Acts
pub mod Committing
pub mod Delivering
