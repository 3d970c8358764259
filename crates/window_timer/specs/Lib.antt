pub mod Intervals
pub mod Times
