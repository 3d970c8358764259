pub mod Measures
pub mod Messages
pub mod Runs
pub mod Stops
