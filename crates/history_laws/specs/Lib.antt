pub mod Answers
pub mod Deliveries
pub mod Fails
pub mod Folds
pub mod Lows
