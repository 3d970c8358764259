pub mod Inputs
pub mod Opened
pub mod Opens
pub mod Refused
