pub mod Answers
pub mod Ends
pub mod Leaving
pub mod Runs
pub mod Tells
pub mod Worked
